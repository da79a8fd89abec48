-- What is known of tours by the crates below. No public contract speaks of this.
use Rattle.deadhead_paths.specs.Laws.{LeastPriceIsSymmetric, LeastPriceOfStaying, LeastDeadheadIsThere}
use Rattle.task_tours.specs.Laws.{StandsAreLinked, ToursDeadheadIsUnique}

-- least prices are the same both ways, and 0 from a vertex to itself, and tours have a least deadhead, and only one
pub record TourLaws : Type 0 where
  pub symmetric : LeastPriceIsSymmetric
  pub staying : LeastPriceOfStaying
  pub there : LeastDeadheadIsThere
  pub linked : StandsAreLinked
  pub unique : ToursDeadheadIsUnique
