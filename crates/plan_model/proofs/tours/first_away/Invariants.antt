use Rattle.std.proofs.Common.{ℕ, ◌<◌}
use Rattle.plan_model.specs.Plans.{walk_at}
use Rattle.plan_model.specs.Passes.{IsAtDepot}
use Rattle.plan_model.proofs.tours.first_away.Given as goal

-- each walk so far starts and ends at the depot
abbrev pub invariant-loop-tour : goal.invariant-loop-tour
invariant-loop-tour l = (k : ℕ) → k < l.tour → IsAtDepot l.inst (walk_at l.plan k)
