use Rattle.std.proofs.Common.{◌≡◌, ◌∙◌, []}
use Rattle.std.proofs.lemmas.Result.{IfOk-weaker}
use Rattle.grown_trees.specs.Places.{branch_to}
use Rattle.grown_trees.proofs.way.branch_at.Goals as goal

pub returns : goal.returns
returns c = λ tree is. IfOk-weaker c.branch_of.result (λ branch. branch ≡ c.deref.result.now) (λ branch. branch ≡ branch_to [] tree c.args.place)
    (λ branch here. here ∙ c.deref.ensures.value ∙ c.in_ok-decisions.ensures.way tree is) c.branch_of.ensures
