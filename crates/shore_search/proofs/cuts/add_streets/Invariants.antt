use Rattle.shore_search.specs.Tables.{AreArcs}
use Rattle.shore_search.proofs.cuts.add_streets.Given as goal

abbrev pub invariant-loop-k : goal.invariant-loop-k
invariant-loop-k l = AreArcs l.streets.width l.arcs.items
