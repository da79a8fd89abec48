use Rattle.std.proofs.Common.{◌≡◌, ℕ, ◌*◌, ◌<◌, length, slice_index}
use Rattle.carp_base.specs.Problem.{edge_at, head_of}
use Rattle.route_pricing.specs.Partial.{column_task}
use Rattle.route_pricing.proofs.copying.list_ends.Given as goal

abbrev pub invariant-loop-column : goal.invariant-loop-column
invariant-loop-column l = record {
  long : length l.ends ≡ 2 * l.inst.required;
  each : (c : ℕ) → c < l.column → slice_index l.ends c ≡ head_of (edge_at l.inst (column_task c).edge) (column_task c).forward;
}
