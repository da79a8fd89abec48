use Rattle.std.proofs.Common.{ℕ, ◌<◌}
use Rattle.plan_model.specs.Passes.{ContinuesAt}
use Rattle.plan_model.proofs.tours.first_break.Given as goal

-- each step so far continues
abbrev pub invariant-loop-i : goal.invariant-loop-i
invariant-loop-i l = (k : ℕ) → k < l.i → ContinuesAt l.inst l.walk k
