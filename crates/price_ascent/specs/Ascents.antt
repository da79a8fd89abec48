-- Where an ascent begins and stands. No public contract speaks of this.
use Rattle.carp_base.specs.Problem.{Problem}
use Rattle.price_points.specs.Points.{IsPoint}
use Rattle.price_ascent.specs.declared.ascent.Ascent.{Ascent}
use Rattle.price_ascent.specs.declared.start.Start.{Start}

-- its point is within the limits
pub record IsStart (p : Problem) (start : Start) : Type 0 where
  pub point : IsPoint p start.point

-- its points are within the limits
pub record IsAscent (p : Problem) (ascent : Ascent) : Type 0 where
  pub best : IsPoint p ascent.best
  pub point : IsPoint p ascent.point
  pub summit : IsPoint p ascent.summit
