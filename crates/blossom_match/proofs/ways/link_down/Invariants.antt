use Rattle.std.proofs.Common.{◌≡◌}
use Rattle.blossom_match.specs.Ways.{climb, IsLinkedDown}
use Rattle.blossom_match.proofs.ways.link_down.Given as goal

abbrev pub invariant-loop-k : goal.invariant-loop-k
invariant-loop-k l = record {
  at : climb l.top l.entry l.k l.from ≡ l.node;
  linked : IsLinkedDown l.top l.entry l.from l.k l.fn.next l.next l.fn.link l.link;
}
