use Rattle.std.proofs.Common.{ℕ, ◌<◌}
use Rattle.branch_rules.specs.Prices.{group_at}
use Rattle.branch_rules.specs.Refusals.{HasYes}
use Rattle.branch_rules.proofs.branch.Branch.check_yes.Given as goal

-- none of the groups so far lacks its yes
abbrev pub invariant-loop-group : goal.invariant-loop-group
invariant-loop-group l = (k : ℕ) → k < l.group-index → HasYes l.self (group_at l.set k)
