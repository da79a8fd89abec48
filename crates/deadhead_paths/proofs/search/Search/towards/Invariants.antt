use Rattle.std.proofs.Common.{◌≡◌}
use Rattle.std.specs.BinaryHeap.{heap_items}
use Rattle.deadhead_paths.specs.Search.{IsLabelling, weight}
use Rattle.deadhead_paths.proofs.search.Search.towards.Given as goal

abbrev pub invariant-loop-label : goal.invariant-loop-label
invariant-loop-label l = record {
  target : l.search.target ≡ l.target;
  search : IsLabelling l.inst l.prices l.search.target l.search.labels.items l.search.nexts.items (heap_items l.search.queue) 0;
}

abbrev pub decreases-loop-label : goal.decreases-loop-label
decreases-loop-label l = weight l.search.labels.items (heap_items l.search.queue)
