use Rattle.carp_base.specs.Search.{AreChains}
use Rattle.carp_base.proofs.search.Arcs.of.Given as goal

-- the arcs so far are chained
abbrev pub invariant-loop-arc : goal.invariant-loop-arc
invariant-loop-arc l = AreChains l.edges l.vertices l.arc l.first.items l.next.items
