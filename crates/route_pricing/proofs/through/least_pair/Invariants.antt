use Rattle.std.proofs.Common.{◌+◌, ◌-◌}
use Rattle.route_pricing.specs.Partial.{column_task, demand_of}
use Rattle.route_pricing.specs.Retracing.{turned}
use Rattle.route_pricing.specs.Through.{IsLeastHalf, IsLeastPairAbove}
use Rattle.route_pricing.proofs.through.least_pair.Given as goal

abbrev pub invariant-loop-more : goal.invariant-loop-more
invariant-loop-more l = record {
  back : IsLeastHalf l.grid l.scale.value l.scale.left (demand_of l.grid (column_task l.column) + l.more) (turned (column_task l.column)) l.back;
  best : IsLeastPairAbove l.grid l.scale.value l.scale.left (l.grid.inst.capacity - l.more) (column_task l.column) l.best;
}
