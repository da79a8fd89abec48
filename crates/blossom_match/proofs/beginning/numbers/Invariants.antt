use Rattle.std.proofs.Common.{◌≡◌, ℕ, ◌<◌, length, slice_index}
use Rattle.blossom_match.proofs.beginning.numbers.Given as goal

abbrev pub invariant-loop-k : goal.invariant-loop-k
invariant-loop-k l = record {
  len : length l.list.items ≡ l.k;
  each : (k : ℕ) → k < l.k → slice_index l.list.items k ≡ k;
}
