use Rattle.std.proofs.Common.{◌<◌, All}
use Rattle.shore_program.proofs.tableau.marked_columns.Given as goal

abbrev pub invariant-loop-place : goal.invariant-loop-place
invariant-loop-place l = All (λ c. c < 1200) l.marked.items
