use Rattle.cert_transfer.specs.TourParts.{IsPartSoFar}
use Rattle.cert_transfer.proofs.cutting.end_of_tour.Given as goal

abbrev pub invariant-loop-end : goal.invariant-loop-end
invariant-loop-end l = IsPartSoFar l.inst l.tasks l.start l.end l.load
