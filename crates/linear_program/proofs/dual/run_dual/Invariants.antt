use Rattle.std.proofs.Common.{length}
use Rattle.linear_program.specs.Bases.{IsBasis}
use Rattle.linear_program.proofs.dual.run_dual.Given as goal

abbrev pub invariant-loop : goal.invariant-loop
invariant-loop l = IsBasis (length l.selection.rows.items) l.basis
