use Rattle.std.proofs.Common.{◌*◌, ◌^◌, ◌≤ℤ◌, pos}
use Rattle.std.specs.Prelude.{neg_ℤ}
use Rattle.linear_program.proofs.costs.weighted_sum.Given as goal

abbrev pub invariant-loop-entry : goal.invariant-loop-entry
invariant-loop-entry l = record {
  high : l.sum ≤ℤ pos (l.entry-index * 2 ^ 76);
  low : neg_ℤ (pos (l.entry-index * 2 ^ 76)) ≤ℤ l.sum;
}
