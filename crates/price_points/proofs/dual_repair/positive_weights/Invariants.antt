use Rattle.std.proofs.Common.{All}
use Rattle.route_pricing.specs.Pricing.{IsServicePrice}
use Rattle.price_points.proofs.dual_repair.positive_weights.Given as goal

abbrev pub invariant-loop-weight : goal.invariant-loop-weight
invariant-loop-weight l = All IsServicePrice l.positive.items
