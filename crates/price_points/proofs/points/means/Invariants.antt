use Rattle.std.proofs.Common.{◌≡◌, All, length}
use Rattle.route_pricing.specs.Pricing.{IsServicePrice}
use Rattle.price_points.proofs.points.means.Given as goal

abbrev pub invariant-loop-place : goal.invariant-loop-place
invariant-loop-place l = record {
  one_each : length l.means.items ≡ l.place;
  within : All IsServicePrice l.means.items;
}
