-- The shores of one vertex that are placed behind the shores of a floor.
use Rattle.std.specs.Prelude.{◌≡◌, ◌≢◌, ℕ, zero, suc, ◌<◌, ◌++◌, List, [], ◌∷◌, length}
use Rattle.carp_base.specs.Problem.{Problem}
use Rattle.cut_pool.specs.Shores.{is_in, need}
use Rattle.cut_pool.specs.Pools.{Holds}
use Rattle.branch_rules.specs.Prices.{Prices}
use Rattle.dual_master.specs.Floors.{WeighsEach, plain_value}
use Rattle.dual_master.specs.Candidates.{IsFloorBase}

-- the shore of just this vertex is placed: it is not the depot, some deadhead over it is needed, and the pool has room and does not
-- hold the shore
pub record IsWanted (p : Problem) (pool : List (List ℕ)) (v : ℕ) : Type 0 where
  pub no_depot : v ≢ p.depot
  pub needed : 0 < need p (is_in (v ∷ []))
  pub room : length pool < 2000
  pub new : ¬ (Holds pool (v ∷ []))

-- the pool after one vertex was tried
pub data IsTried (p : Problem) (pool : List (List ℕ)) (v : ℕ) (after : List (List ℕ)) : Type 0 where
  one_more : IsWanted p pool v → after ≡ pool ++ (v ∷ []) ∷ [] → IsTried p pool v after
  as_before : ¬ (IsWanted p pool v) → after ≡ pool → IsTried p pool v after

-- the pool after the vertices from 1 to a number were tried in order
abbrev pub HasSingles : Problem → List (List ℕ) → ℕ → List (List ℕ) → Type 0
HasSingles p base zero pool = pool ≡ base
HasSingles p base (suc v) pool = (before : List (List ℕ)) × HasSingles p base v before × IsTried p before (suc v) pool

-- The pool holds the shores of the floor that the set shows, each with a weight of the set, and behind them the shores of one vertex, which
-- leave the set's value as it was. A set that also reaches all three floors shows one that has the greatest value, where that of Join is
-- what its shores need.
pub record IsFloorPool (p : Problem) (pool : List (List ℕ)) (set : Prices) : Type 0 where
  pub base : List (List ℕ)
  pub of_floor : IsFloorBase p base set
  pub weighed : WeighsEach base set
  pub singles : HasSingles p base p.vertices pool
  pub value : plain_value p pool set ≡ plain_value p base set
