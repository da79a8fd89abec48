use Rattle.std.proofs.Common.{◌≡◌, ◌++◌, map, take}
use Rattle.deadhead_paths.specs.Tours.{tasks_of}
use Rattle.local_moves.specs.Stops.{stop_of}
use Rattle.local_moves.proofs.tours.add_services.Given as goal

abbrev pub invariant-loop-i : goal.invariant-loop-i
invariant-loop-i l = l.sequence.items ≡ l.initial.sequence.items ++ map stop_of (tasks_of (take l.i l.walk))
