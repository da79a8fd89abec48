use Rattle.std.proofs.Common.{◌≡◌, []}
use Rattle.edge_components.specs.Search.{IsSearch}
use Rattle.edge_components.proofs.labelling.label_all.Given as goal

abbrev pub invariant-loop-root : goal.invariant-loop-root
invariant-loop-root l = record {
  none : l.waiting.items ≡ [];
  search : IsSearch l.inst l.x l.least l.root l.labels [] 0;
}
