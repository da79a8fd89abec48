use Rattle.std.proofs.Common.{◌≡◌, ℕ, ◌<◌}
use Rattle.blossom_match.specs.Turns.{top_of}
use Rattle.blossom_match.specs.Unfolding.{IsUnfolding}
use Rattle.blossom_match.proofs.unfold.unfold.Given as goal

abbrev pub invariant-loop-v : goal.invariant-loop-v
invariant-loop-v l = record {
  so_far : IsUnfolding l.costs l.state;
  size : l.state.size ≡ l.fn.state.size;
  singles : (w : ℕ) → w < l.v → top_of l.state w < l.fn.state.size;
}
