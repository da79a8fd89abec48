use Rattle.giant_split.specs.Cuts.{AreCutFrom}
use Rattle.giant_split.proofs.cutting.cut_legs.Given as goal

abbrev pub invariant-loop-from : goal.invariant-loop-from
invariant-loop-from l = AreCutFrom l.capacity l.legs l.costs l.lasts l.from
