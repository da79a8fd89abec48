use Rattle.std.proofs.Common.{ℕ, ◌<◌, get_or}
use Rattle.branch_rules.specs.Crossings.{IsUncrossed}
use Rattle.decision_chains.specs.declared.decision.Decision.{Decision}
use Rattle.branch_rules.proofs.branch.Branch.is_crossed.Given as goal

abbrev pub invariant-loop-decision : goal.invariant-loop-decision
invariant-loop-decision l = (k : ℕ) (d : Decision) → k < l.decision-index → IsUncrossed l.inst l.pool l.self (get_or l.self k d)
