use Rattle.std.proofs.Common.{◌≡◌, All, length}
use Rattle.route_pricing.specs.Pricing.{IsServicePrice}
use Rattle.price_points.proofs.start.start_prices.Given as goal

abbrev pub invariant-loop-place : goal.invariant-loop-place
invariant-loop-place l = record {
  one_each : length l.prices.items ≡ l.place;
  within : All IsServicePrice l.prices.items;
}
