use Rattle.std.proofs.Common.{◌≡◌, ◌+◌, ◌<◌, ◌≤◌, ℕ, true, false, length}
use Rattle.route_pricing.specs.Labels.{CarriesOn, AreMarked, is_marked, visited_at, work_left}
use Rattle.route_pricing.proofs.grid.Grid.sweep.Given as goal

abbrev pub invariant-loop-place : goal.invariant-loop-place
invariant-loop-place l = record {
  on : CarriesOn l.self l.fn.layer l.layer;
  marks : length l.marks ≡ l.self.inst.vertices + 1;
  marked : AreMarked l.self l.layer l.marks;
  falls : work_left l.layer l.marks ≤ work_left l.fn.layer l.fn.marks;
  work : l.found ≡ true → work_left l.layer l.marks < work_left l.fn.layer l.fn.marks;
  none : l.found ≡ false → (j : ℕ) → j < l.place → is_marked l.marks (visited_at l.up l.self.inst.vertices j) ≡ false;
}
