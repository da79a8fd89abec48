use Rattle.std.proofs.Common.{◌≡◌}
use Rattle.giant_split.specs.Cuts.{IsBestLast, onward}
use Rattle.giant_split.proofs.cutting.best_last.Given as goal

abbrev pub invariant-loop-last : goal.invariant-loop-last
invariant-loop-last l = record {
  best : IsBestLast l.capacity l.legs l.costs l.from l.last l.best;
  least : l.least ≡ onward l.legs l.costs l.best;
}
