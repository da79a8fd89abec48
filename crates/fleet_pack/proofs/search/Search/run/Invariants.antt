use Rattle.std.proofs.Common.{◌≤◌, ◌-◌, length}
use Rattle.fleet_pack.specs.States.{IsSearch}
use Rattle.fleet_pack.proofs.search.Search.run.Given as goal

abbrev pub invariant-loop-alloc : goal.invariant-loop-alloc
invariant-loop-alloc l = record {
  search : IsSearch l.inst l.self;
  few : length l.self.nodes.items ≤ l.turns;
  fewer : l.self.best.count ≤ l.fn.self.best.count;
}

abbrev pub decreases-loop-alloc : goal.decreases-loop-alloc
decreases-loop-alloc l = l.turns - length l.self.nodes.items
