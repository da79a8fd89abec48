use Rattle.blossom_match.specs.Answer.{mate_in}
use Rattle.matching_duals.specs.Pairs.{ArePaired}
use Rattle.matching_duals.proofs.joining.join_pairs.Given as goal

abbrev pub invariant-loop-i : goal.invariant-loop-i
invariant-loop-i l = ArePaired l.inst l.ground.odd.items l.ground.table.items (mate_in l.matching) l.i l.counts.items
