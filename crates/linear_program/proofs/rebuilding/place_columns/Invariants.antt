use Rattle.std.proofs.Common.{length}
use Rattle.linear_program.specs.Bases.{IsBasis}
use Rattle.linear_program.proofs.rebuilding.place_columns.Given as goal

abbrev pub invariant-loop-place : goal.invariant-loop-place
invariant-loop-place l = IsBasis (length l.selection.rows.items) l.basis
