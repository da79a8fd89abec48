use Rattle.std.proofs.Common.{◌≡◌, take}
use Rattle.plan_model.proofs.plan.Plan.copy.Given as goal

-- the walks so far
abbrev pub invariant-loop-i : goal.invariant-loop-i
invariant-loop-i l = l.walks.items ≡ take l.i l.self-inside.walks.items
