use Rattle.std.proofs.Common.{All}
use Rattle.route_pricing.specs.Pricing.{IsServicePrice}
use Rattle.column_generation.proofs.cold_start.take_groups.Given as goal

abbrev pub invariant-loop-group : goal.invariant-loop-group
invariant-loop-group l = All IsServicePrice l.weights.items
