use Rattle.std.proofs.Common.{◌≡◌, ◌≢◌, ℕ, ◌<◌, true, false}
use Rattle.blossom_match.specs.Views.{holds}
use Rattle.blossom_match.proofs.beginning.hold_singles.Given as goal

abbrev pub invariant-loop-v : goal.invariant-loop-v
invariant-loop-v l = record {
  own : (k : ℕ) → k < l.v → holds l.size l.held k k ≡ true;
  others : (s w : ℕ) → w < l.size → s ≢ w → holds l.size l.held s w ≡ false;
}
