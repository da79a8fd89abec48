use Rattle.std.proofs.Common.{◌≡◌, length}
use Rattle.shore_program.proofs.tableau.rows_of.Given as goal

abbrev pub invariant-loop-place : goal.invariant-loop-place
invariant-loop-place l = length l.rows.items ≡ l.place
