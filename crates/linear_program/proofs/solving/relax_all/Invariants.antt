use Rattle.linear_program.specs.Bases.{IsBasis}
use Rattle.linear_program.proofs.solving.relax_all.Given as goal

abbrev pub invariant-loop-place : goal.invariant-loop-place
invariant-loop-place l = IsBasis l.rows l.basis
