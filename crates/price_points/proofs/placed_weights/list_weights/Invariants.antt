use Rattle.price_points.specs.Weights.{AreListed}
use Rattle.price_points.proofs.placed_weights.list_weights.Given as goal

abbrev pub invariant-loop-shore : goal.invariant-loop-shore
invariant-loop-shore l = AreListed l.shore l.listed.items
