use Rattle.std.proofs.Common.{◌≤◌}
use Rattle.linear_program.proofs.pivoting.list_terms.Given as goal

abbrev pub invariant-loop-place : goal.invariant-loop-place
invariant-loop-place l = l.count ≤ l.place
