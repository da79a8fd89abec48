use Rattle.std.proofs.Common.{◌≡◌, ℕ, ◌+◌, ◌-◌, ◌*◌, ◌≤◌, length, slice_index}
use Rattle.carp_base.specs.Problem.{IsEdgeNumber, edge_at}
use Rattle.route_pricing.proofs.copying.copy_lengths.Given as goal

abbrev pub invariant-loop-place : goal.invariant-loop-place
invariant-loop-place l = record {
  long : length l.lengths ≡ length l.inst.edges;
  same : (e : ℕ) → IsEdgeNumber l.inst e → e ≤ l.place → slice_index l.lengths (e - 1) ≡ slice_index l.ways ((edge_at l.inst e).u * (l.inst.vertices + 1) + (edge_at l.inst e).v);
}
