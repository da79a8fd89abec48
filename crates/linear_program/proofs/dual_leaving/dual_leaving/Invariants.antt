use Rattle.std.proofs.Common.{◌<◌, ◌≤◌, IfSome}
use Rattle.linear_program.proofs.dual_leaving.dual_leaving.Given as goal

abbrev pub invariant-loop-place : goal.invariant-loop-place
invariant-loop-place l = record {
  place : IfSome l.best (λ b. b.place < l.rows);
  looked_at : l.looked_at ≤ l.place;
}
