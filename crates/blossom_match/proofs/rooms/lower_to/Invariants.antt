use Rattle.blossom_match.proofs.Bounding.{AreLowered}
use Rattle.blossom_match.proofs.rooms.lower_to.Given as goal

abbrev pub invariant-loop-v : goal.invariant-loop-v
invariant-loop-v l = AreLowered l.costs l.state l.u l.fn.least l.least l.v
