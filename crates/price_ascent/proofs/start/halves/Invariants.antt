use Rattle.std.proofs.Common.{All}
use Rattle.route_pricing.specs.Pricing.{IsServicePrice}
use Rattle.price_ascent.proofs.start.halves.Given as goal

abbrev pub invariant-loop-place : goal.invariant-loop-place
invariant-loop-place l = All IsServicePrice l.halves.items
