use Rattle.std.proofs.Common.{◌≡◌, ℕ, ◌-◌, ◌*◌, ◌≤◌, ◌<◌, length, slice_index}
use Rattle.carp_base.specs.Packings.{demand_in}
use Rattle.packing_trees.proofs.grouping.add_up.Given as goal

abbrev pub invariant-loop-edge : goal.invariant-loop-edge
invariant-loop-edge l = record {
  so_far : (g : ℕ) → g < length l.loads → slice_index l.loads g ≡ demand_in l.inst l.groups g (l.edge - 1);
  small : (g : ℕ) → g < length l.loads → slice_index l.loads g ≤ 30000 * (l.edge - 1);
}
