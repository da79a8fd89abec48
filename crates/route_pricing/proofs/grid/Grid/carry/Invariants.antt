use Rattle.std.proofs.Common.{◌≡◌, ◌+◌, false, cond, length}
use Rattle.route_pricing.specs.Labels.{CarriesOn, AreMarked, AreStreetsSettled, work_left}
use Rattle.route_pricing.proofs.grid.Grid.carry.Given as goal

abbrev pub invariant-loop-found : goal.invariant-loop-found
invariant-loop-found l = record {
  on : CarriesOn l.self l.fn.layer l.layer;
  marks : length l.marks ≡ l.self.inst.vertices + 1;
  marked : AreMarked l.self l.layer l.marks;
  settled : l.found ≡ false → AreStreetsSettled l.self l.layer;
}

abbrev pub decreases-loop-found : goal.decreases-loop-found
decreases-loop-found l = work_left l.layer l.marks + cond l.found 1 0
