use Rattle.std.proofs.Common.{◌≡◌, ◌≢◌, ℕ, ◌<◌, false}
use Rattle.blossom_match.specs.Views.{holds}
use Rattle.blossom_match.proofs.expand.empty_row.Given as goal

abbrev pub invariant-loop-v : goal.invariant-loop-v
invariant-loop-v l = record {
  own : (w : ℕ) → w < l.v → holds l.size l.held l.s w ≡ false;
  others : (t w : ℕ) → w < l.size → t ≢ l.s → holds l.size l.held t w ≡ holds l.size l.fn.held t w;
}
