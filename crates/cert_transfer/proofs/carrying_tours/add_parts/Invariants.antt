use Rattle.std.proofs.Common.{length, ◌-◌}
use Rattle.cert_transfer.specs.TourParts.{IsCutUpTo}
use Rattle.cert_transfer.proofs.carrying_tours.add_parts.Given as goal

abbrev pub invariant-loop-start : goal.invariant-loop-start
invariant-loop-start l = IsCutUpTo l.inst l.fn.plan l.tasks l.start l.plan

abbrev pub decreases-loop-start : goal.decreases-loop-start
decreases-loop-start l = length l.tasks - l.start
