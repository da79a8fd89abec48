use Rattle.std.proofs.Common.{◌≡◌, ℕ, ◌<◌, length, get_or}
use Rattle.capacity_cuts.proofs.network.own_labels.Given as goal

abbrev pub invariant-loop-v : goal.invariant-loop-v
invariant-loop-v l = record {
  long : length l.labels.items ≡ l.v;
  own : (w : ℕ) → w < l.v → get_or l.labels.items w 0 ≡ w;
}
