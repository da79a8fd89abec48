-- Points, and what a table shows of one.
use Rattle.std.specs.Prelude.{◌≡◌}
use Rattle.std.specs.List.{All}
use Rattle.carp_base.specs.Problem.{Problem}
use Rattle.route_pricing.specs.Pricing.{IsServicePrice}
use Rattle.route_pricing.specs.Values.{IsRate}
use Rattle.price_points.specs.Services.{AreServicePrices}
use Rattle.price_points.specs.declared.points.Point.{Point}
use Rattle.price_points.specs.declared.scores.Scored.{Scored}

-- prices of services, and weights within the limits
pub record IsPoint (p : Problem) (point : Point) : Type 0 where
  pub prices : AreServicePrices p point.prices.items
  pub weights : All IsServicePrice point.weights.items

-- its point is within the limits, and its distances and its rate are of the instance
pub record IsScored (p : Problem) (scored : Scored) : Type 0 where
  pub point : IsPoint p scored.point
  pub dist : scored.dist.problem ≡ p
  pub rate : IsRate scored.rate
