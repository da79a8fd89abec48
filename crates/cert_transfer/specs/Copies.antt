-- Copies of shores and price sets. No public contract speaks of this.
use Rattle.std.specs.Prelude.{ℕ, ◌<◌, List, length}
use Rattle.cut_pool.specs.Pools.{Holds}

-- there is room for the shore, which is not held
pub record MayPlace (pool : List (List ℕ)) (shore : List ℕ) : Type 0 where
  pub new : ¬ (Holds pool shore)
  pub room : length pool < 2000
