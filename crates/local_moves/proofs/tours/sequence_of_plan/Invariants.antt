use Rattle.std.proofs.Common.{◌≡◌, take}
use Rattle.task_tours.specs.Tours.{plan_tours}
use Rattle.local_moves.specs.Stops.{sequence_of}
use Rattle.local_moves.proofs.tours.sequence_of_plan.Given as goal

abbrev pub invariant-loop-i : goal.invariant-loop-i
invariant-loop-i l = l.sequence.items ≡ sequence_of (plan_tours (take l.i l.plan))
