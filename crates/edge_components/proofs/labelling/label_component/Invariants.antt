use Rattle.std.proofs.Common.{◌≤◌, get_or}
use Rattle.edge_components.specs.Search.{IsSearch, work_left}
use Rattle.edge_components.proofs.labelling.label_component.Given as goal

abbrev pub invariant-loop-v : goal.invariant-loop-v
invariant-loop-v l = record {
  search : IsSearch l.inst l.x l.least l.root l.labels l.waiting.items 0;
  some : 1 ≤ get_or l.labels l.root 0;
}

abbrev pub decreases-loop-v : goal.decreases-loop-v
decreases-loop-v l = work_left l.labels l.waiting.items
