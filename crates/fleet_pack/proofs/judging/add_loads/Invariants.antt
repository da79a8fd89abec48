use Rattle.std.proofs.Common.{◌≡◌, ℕ, ◌-◌, ◌*◌, ◌≤◌, ◌<◌, length}
use Rattle.std.specs.Prelude.{slice_index}
use Rattle.carp_base.specs.Packings.{demand_in}
use Rattle.fleet_pack.proofs.judging.add_loads.Given as goal

abbrev pub invariant-loop-edge : goal.invariant-loop-edge
invariant-loop-edge l = record {
  so_far : (k : ℕ) → k < length l.loads → slice_index l.loads k ≡ demand_in l.inst l.groups k (l.edge - 1);
  small : (k : ℕ) → k < length l.loads → slice_index l.loads k ≤ 30000 * (l.edge - 1);
}
