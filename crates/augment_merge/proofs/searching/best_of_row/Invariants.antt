use Rattle.augment_merge.specs.Outlines.{FindsBest, IsRowJoin}
use Rattle.augment_merge.proofs.searching.best_of_row.Given as goal

abbrev pub invariant-loop-second : goal.invariant-loop-second
invariant-loop-second l = FindsBest (IsRowJoin l.inst l.outlines l.first l.second) l.best
