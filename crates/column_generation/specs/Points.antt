-- Where a generation of columns stands.
use Rattle.carp_base.specs.Problem.{Problem}
use Rattle.price_points.specs.Points.{IsPoint}
use Rattle.column_generation.specs.declared.cold_start.Start.{Start}
use Rattle.column_generation.specs.declared.generation.Generation.{Generation}

-- its point is within the limits
pub record IsStart (p : Problem) (start : Start) : Type 0 where
  pub point : IsPoint p start.point

-- its best point is within the limits
pub record IsGeneration (p : Problem) (generation : Generation) : Type 0 where
  pub best : IsPoint p generation.best
