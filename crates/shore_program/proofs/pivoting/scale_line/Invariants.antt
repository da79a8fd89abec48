use Rattle.std.proofs.Common.{◌<◌, All}
use Rattle.shore_program.proofs.pivoting.scale_line.Given as goal

abbrev pub invariant-loop-place : goal.invariant-loop-place
invariant-loop-place l = All (λ t. t.column < l.columns) l.terms.items
