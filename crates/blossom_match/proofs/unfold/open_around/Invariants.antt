use Rattle.std.proofs.Common.{◌≡◌, ℕ, ◌<◌}
use Rattle.blossom_match.specs.Matching.{members}
use Rattle.blossom_match.specs.Views.{holds}
use Rattle.blossom_match.specs.Turns.{top_of}
use Rattle.blossom_match.specs.Unfolding.{IsUnfolding}
use Rattle.blossom_match.proofs.unfold.open_around.Given as goal

abbrev pub invariant-loop-state : goal.invariant-loop-state
invariant-loop-state l = record {
  so_far : IsUnfolding l.costs l.state;
  size : l.state.size ≡ l.fn.state.size;
  singles : (w : ℕ) → w < l.fn.state.size → top_of l.fn.state w < l.fn.state.size → top_of l.state w < l.fn.state.size;
}

abbrev pub decreases-loop-state : goal.decreases-loop-state
decreases-loop-state l = members l.state.size (holds l.state.size l.state.held.items (top_of l.state l.v))
