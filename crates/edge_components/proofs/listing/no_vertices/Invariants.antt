use Rattle.std.proofs.Common.{◌≡◌, ℕ, ◌<◌, [], length, get_or}
use Rattle.edge_components.proofs.listing.no_vertices.Given as goal

abbrev pub invariant-loop-place : goal.invariant-loop-place
invariant-loop-place l = record {
  long : length l.groups.items ≡ l.place;
  none : (r : ℕ) (d : _) → r < l.place → (get_or l.groups.items r d).items ≡ [];
}
