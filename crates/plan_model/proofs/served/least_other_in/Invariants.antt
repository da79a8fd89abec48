use Rattle.std.proofs.Common.{take}
use Rattle.plan_model.specs.Passes.{FindsLeast, ServesOtherIn}
use Rattle.plan_model.proofs.served.least_other_in.Given as goal

-- the least over the steps so far
abbrev pub invariant-loop-i : goal.invariant-loop-i
invariant-loop-i l = FindsLeast (ServesOtherIn l.inst (take l.i l.walk)) l.least
