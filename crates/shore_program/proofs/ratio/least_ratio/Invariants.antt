use Rattle.std.proofs.Common.{IfSome}
use Rattle.shore_program.specs.Tableaus.{IsRatio}
use Rattle.shore_program.proofs.ratio.least_ratio.Given as goal

abbrev pub invariant-loop-row : goal.invariant-loop-row
invariant-loop-row l = IfSome l.best (IsRatio l.row)
