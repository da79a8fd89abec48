use Rattle.std.proofs.Common.{◌≡◌, ◌≤◌, length, get_or}
use Rattle.std.specs.BinaryHeap.{heap_items}
use Rattle.road_network.specs.Incidence.{incident}
use Rattle.deadhead_paths.specs.Search.{IsLabelling, weight}
use Rattle.deadhead_paths.proofs.Searching.{AreTried}
use Rattle.deadhead_paths.proofs.search.Search.settle.Given as goal

-- the edges before the i-th were tried
abbrev pub invariant-loop-i : goal.invariant-loop-i
invariant-loop-i l = record {
  target : l.self.target ≡ l.fn.self.target;
  degree : l.i-end ≡ length (incident l.inst l.v);
  search : IsLabelling l.inst l.prices l.self.target l.self.labels.items l.self.nexts.items (heap_items l.self.queue) l.v;
  lighter : weight l.self.labels.items (heap_items l.self.queue) ≤ weight l.fn.self.labels.items (heap_items l.fn.self.queue);
  label : l.label ≡ get_or l.self.labels.items l.v 0;
  tried : AreTried l.inst l.prices l.self.labels.items l.v l.i;
}
