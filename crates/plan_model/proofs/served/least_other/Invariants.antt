use Rattle.std.proofs.Common.{take}
use Rattle.plan_model.specs.Plans.{steps_of}
use Rattle.plan_model.specs.Passes.{FindsLeast, ServesOtherIn}
use Rattle.plan_model.proofs.served.least_other.Given as goal

-- the least over the walks so far
abbrev pub invariant-loop-tour : goal.invariant-loop-tour
invariant-loop-tour l = FindsLeast (ServesOtherIn l.inst (steps_of (take l.tour l.plan))) l.least
