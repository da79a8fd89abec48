use Rattle.std.proofs.Common.{List, ℕ, ◌++◌, ◌∷◌, [], ◌∙◌, ap, IsPermutation, subst}
use Rattle.matching_duals.proofs.Running.{sorted_ends}
use Rattle.matching_duals.proofs.runs.ends_of.Goals as goal

pub returns : goal.returns
returns c =
    sorted_ends c.args.depths.now c.sort_unstable.new.self.items c.args.weight c.requires
    (subst (λ (l : List ℕ). IsPermutation l c.sort_unstable.new.self.items)
    (c.in_ok-push.ensures.items ∙ ap (λ (l : List ℕ). l ++ c.args.weight ∷ []) c.in_ok-ends.ensures.items) c.sort_unstable.ensures.permutation)
    c.sort_unstable.ensures.sorted
