use Rattle.std.proofs.Common.{ℕ, ◌<◌, ◌≤◌}
use Rattle.plan_model.specs.Plans.{walk_at, walk_load}
use Rattle.plan_model.proofs.tours.first_overload.Given as goal

-- no walk so far is overloaded
abbrev pub invariant-loop-tour : goal.invariant-loop-tour
invariant-loop-tour l = (k : ℕ) → k < l.tour → walk_load l.inst (walk_at l.plan k) ≤ l.inst.capacity
