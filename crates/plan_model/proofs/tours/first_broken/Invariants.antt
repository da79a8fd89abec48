use Rattle.std.proofs.Common.{ℕ, ◌<◌}
use Rattle.plan_model.specs.Plans.{walk_at}
use Rattle.plan_model.specs.Passes.{Continues}
use Rattle.plan_model.proofs.tours.first_broken.Given as goal

-- each walk so far continues
abbrev pub invariant-loop-tour : goal.invariant-loop-tour
invariant-loop-tour l = (k : ℕ) → k < l.tour → Continues l.inst (walk_at l.plan k)
