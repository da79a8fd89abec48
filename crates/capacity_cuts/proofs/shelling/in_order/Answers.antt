use Rattle.std.proofs.Common.{List, ℕ, IsPermutation, subst}
use Rattle.capacity_cuts.proofs.Layering.{sorted_ends}
use Rattle.capacity_cuts.proofs.shelling.in_order.Goals as goal

pub returns : goal.returns
returns c =
    sorted_ends c.args.lengths.now c.sort_unstable.new.self.items
    (subst (λ (l : List ℕ). IsPermutation l c.sort_unstable.new.self.items) c.in_ok-ends.ensures.items c.sort_unstable.ensures.permutation) c.sort_unstable.ensures.sorted
