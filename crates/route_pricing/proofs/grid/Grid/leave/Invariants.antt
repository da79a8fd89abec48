use Rattle.std.proofs.Common.{◌≡◌, ◌+◌, ◌≤◌, length}
use Rattle.road_network.specs.Incidence.{incident}
use Rattle.route_pricing.specs.Labels.{CarriesOn, AreMarkedBut, AreMarkedBefore, work_left}
use Rattle.route_pricing.proofs.grid.Grid.leave.Given as goal

abbrev pub invariant-loop-place : goal.invariant-loop-place
invariant-loop-place l = record {
  degree : l.place-end ≡ length (incident l.self.inst l.from);
  on : CarriesOn l.self l.fn.layer l.layer;
  marks : length l.marks ≡ l.self.inst.vertices + 1;
  work : work_left l.layer l.marks ≤ work_left l.fn.layer l.fn.marks;
  marked : AreMarkedBut l.self l.fn.layer l.fn.marks l.from → AreMarkedBefore l.self l.layer l.marks l.from l.place;
}
