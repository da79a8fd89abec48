use Rattle.std.proofs.Common.{◌<◌, IfSome}
use Rattle.linear_program.proofs.leaving.greatest_within.Given as goal

abbrev pub invariant-loop-place : goal.invariant-loop-place
invariant-loop-place l = IfSome l.best (λ place. place < l.place)
