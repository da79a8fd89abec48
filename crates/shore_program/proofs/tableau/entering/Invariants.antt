use Rattle.std.proofs.Common.{◌<◌, IfSome}
use Rattle.shore_program.proofs.tableau.entering.Given as goal

abbrev pub invariant-loop-place : goal.invariant-loop-place
invariant-loop-place l = IfSome l.best (λ place. place < l.place)
