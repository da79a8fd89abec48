use Rattle.std.proofs.Common.{◌≤◌, length}
use Rattle.linear_program.proofs.rebuilding.list_columns.Given as goal

abbrev pub invariant-loop-variable : goal.invariant-loop-variable
invariant-loop-variable l = l.count ≤ length l.ranks
