use Rattle.std.proofs.Common.{◌*◌, ◌^◌, ◌≤ℤ◌, pos}
use Rattle.std.specs.Prelude.{neg_ℤ}
use Rattle.linear_program.proofs.refreshing.price.Given as goal

abbrev pub invariant-loop-place : goal.invariant-loop-place
invariant-loop-place l = record {
  high : l.sum ≤ℤ pos (l.place * 2 ^ 111);
  low : neg_ℤ (pos (l.place * 2 ^ 111)) ≤ℤ l.sum;
}
