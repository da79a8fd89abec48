use Rattle.augment_merge.specs.Outlines.{FindsBest, StandsInRows}
use Rattle.augment_merge.proofs.searching.first_of.Given as goal

abbrev pub invariant-loop-row : goal.invariant-loop-row
invariant-loop-row l = FindsBest (StandsInRows l.rows l.row-index) l.best
