use Rattle.std.proofs.Common.{◌≡◌}
use Rattle.blossom_match.specs.Ways.{climb, IsLinkedUp}
use Rattle.blossom_match.proofs.ways.link_up.Given as goal

abbrev pub invariant-loop-k : goal.invariant-loop-k
invariant-loop-k l = record {
  at : climb l.top l.entry l.k l.from ≡ l.node;
  linked : IsLinkedUp l.top l.entry l.from l.k l.fn.next l.next l.fn.link l.link;
}
