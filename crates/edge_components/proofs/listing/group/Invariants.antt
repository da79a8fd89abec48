use Rattle.std.proofs.Common.{◌≡◌, ℕ, ◌+◌, ◌-◌, ◌≤◌, length, get_or}
use Rattle.edge_components.specs.Labels.{has_label}
use Rattle.edge_components.specs.Listing.{vertices_where}
use Rattle.edge_components.proofs.listing.group.Given as goal

abbrev pub invariant-loop-v : goal.invariant-loop-v
invariant-loop-v l = record {
  long : length l.groups.items ≡ l.inst.vertices + 1;
  lists : (r : ℕ) (d : _) → r ≤ l.inst.vertices → (get_or l.groups.items r d).items ≡ vertices_where (has_label l.labels r) (l.v - 1);
}
