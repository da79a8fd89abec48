use Rattle.std.proofs.Common.{◌≡◌, take}
use Rattle.deadhead_paths.specs.Tours.{tasks_of}
use Rattle.cert_transfer.proofs.reading.services.Given as goal

abbrev pub invariant-loop-place : goal.invariant-loop-place
invariant-loop-place l = l.tasks.items ≡ tasks_of (take l.place l.walk)
