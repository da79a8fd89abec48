use Rattle.std.proofs.Common.{◌≡◌, ◌≤◌, get_or}
use Rattle.edge_components.specs.Search.{IsSearch, KeepsLabels, work_left}
use Rattle.edge_components.proofs.Searching.{GoneThrough}
use Rattle.edge_components.proofs.labelling.label_neighbours.Given as goal

-- the first i edges at the vertex were gone through
abbrev pub invariant-loop-i : goal.invariant-loop-i
invariant-loop-i l = record {
  search : IsSearch l.inst l.x l.least l.root l.labels l.waiting.items l.v;
  labelled : get_or l.labels l.v 0 ≡ l.root;
  keeps : KeepsLabels l.fn.labels l.labels;
  less : work_left l.labels l.waiting.items ≤ work_left l.fn.labels l.fn.waiting.items;
  through : GoneThrough l.inst l.x l.least l.root l.v l.labels l.i;
}
