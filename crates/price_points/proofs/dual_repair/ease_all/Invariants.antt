use Rattle.std.proofs.Common.{◌≤◌, All}
use Rattle.route_pricing.specs.Pricing.{IsServicePrice}
use Rattle.price_points.specs.Limits.{most_price}
use Rattle.price_points.proofs.dual_repair.ease_all.Given as goal

abbrev pub invariant-loop-rank : goal.invariant-loop-rank
invariant-loop-rank l = record {
  weights : All IsServicePrice l.weights;
  prices : All (λ n. n ≤ most_price) l.prices;
}
