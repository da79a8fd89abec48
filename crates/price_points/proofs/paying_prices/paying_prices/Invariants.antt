use Rattle.std.proofs.Common.{◌≡◌, All, length}
use Rattle.route_pricing.specs.Pricing.{IsServicePrice}
use Rattle.price_points.proofs.paying_prices.paying_prices.Given as goal

abbrev pub invariant-loop-place : goal.invariant-loop-place
invariant-loop-place l = record {
  one_each : length l.paying.items ≡ l.place;
  within : All IsServicePrice l.paying.items;
}
