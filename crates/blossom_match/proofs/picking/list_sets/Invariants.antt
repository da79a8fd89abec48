use Rattle.blossom_match.specs.Unfolded.{ArePicked}
use Rattle.blossom_match.proofs.picking.list_sets.Given as goal

abbrev pub invariant-loop-s : goal.invariant-loop-s
invariant-loop-s l = ArePicked l.state l.s l.sets.starts.items l.sets.members.items l.sets.weights.items
