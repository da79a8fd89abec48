use Rattle.std.proofs.Common.{◌≡◌, All, length}
use Rattle.route_pricing.specs.Pricing.{IsServicePrice}
use Rattle.column_generation.proofs.decision_rows.first_numbers.Given as goal

abbrev pub invariant-loop-place : goal.invariant-loop-place
invariant-loop-place l = record {
  one_each : length l.first.items ≡ l.place;
  within : All IsServicePrice l.first.items;
}
