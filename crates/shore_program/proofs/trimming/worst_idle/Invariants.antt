use Rattle.std.proofs.Common.{IfSome, length}
use Rattle.shore_program.specs.Tableaus.{IsIdle}
use Rattle.shore_program.proofs.trimming.worst_idle.Given as goal

abbrev pub invariant-loop-column : goal.invariant-loop-column
invariant-loop-column l = IfSome l.worst (IsIdle (length l.columns) l.shores)
