use Rattle.shore_search.specs.Tables.{AreArcs}
use Rattle.shore_search.proofs.cuts.network.Given as goal

abbrev pub invariant-loop-v : goal.invariant-loop-v
invariant-loop-v l = AreArcs l.streets.width l.arcs.items
