use Rattle.std.proofs.Common.{All}
use Rattle.route_pricing.specs.Pricing.{IsServicePrice}
use Rattle.column_generation.proofs.cold_start.take_shores.Given as goal

abbrev pub invariant-loop-place : goal.invariant-loop-place
invariant-loop-place l = All IsServicePrice l.weights.items
