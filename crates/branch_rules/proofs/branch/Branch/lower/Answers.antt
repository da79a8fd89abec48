use Rattle.std.proofs.Common.{ap, ◌∙◌, arith}
use Rattle.cut_pool.specs.Shores.{is_in, need, required_crossings}
use Rattle.branch_rules.specs.Decisions.{highest}
use Rattle.branch_rules.proofs.Places.{lower_by}
use Rattle.branch_rules.proofs.branch.Branch.lower.Goals as goal

pub returns-clause-value : goal.returns-clause-value
returns-clause-value c =
    let p = c.args.inst.now in
    lower_by _ _ _ _ _ _ _ c.max-least.ensures (c.need.ensures.value ∙ ap (λ s. need p (is_in s)) c.shore-set.ensures)
    (c.highest_of.ensures.value ∙ ap (highest c.args.shore) (c.deref.ensures.value ∙ c.self.view_is)) (c.required_crossings.ensures.value ∙ ap (λ s. required_crossings p (is_in s)) c.shore-set.ensures)

pub returns-clause-small : goal.returns-clause-small
returns-clause-small c = omega (arith, c.max-least.ensures, c.need.ensures.small, c.highest_of.ensures.small)
