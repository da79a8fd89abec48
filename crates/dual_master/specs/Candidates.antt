-- Price sets that are candidates for the best floor, each over a pool of its own.
use Rattle.std.specs.Prelude.{◌≡◌, ◌⊎◌, ℕ, List, [], ℤ, pos, neg_ℤ, ◌*ℤ◌, ◌≤ℤ◌}
use Rattle.std.specs.List.{All}
use Rattle.carp_base.specs.Problem.{Problem}
use Rattle.cut_pool.specs.Shores.{Belongs}
use Rattle.branch_rules.specs.Limits.{IsPriceSet, IsShoreOf}
use Rattle.branch_rules.specs.Prices.{Prices}
use Rattle.dual_master.specs.Floors.{FitsAlways, HoldsShells, ShowsJoinShores, ShowsRatio, ShowsShell, WeighsEach, plain_value}
use Rattle.dual_master.specs.declared.candidate.Candidate.{Candidate}

-- the pool holds the level sets and the set shows exactly Shell, or it holds the shores of Join and the set shows what they need, or it is
-- empty and the set shows exactly Ratio
abbrev pub IsFloorBase : Problem → List (List ℕ) → Prices → Type 0
IsFloorBase p base set = (HoldsShells p base × ShowsShell p base set) ⊎ ShowsJoinShores p base set ⊎ ((base ≡ []) × ShowsRatio p base set)

-- the set fits under every branch and has no groups, its shores are in the pool, which holds those of the floor that the set shows, each
-- with a weight, and each belongs to the instance
pub record IsFloorSet (p : Problem) (pool : List (List ℕ)) (set : Prices) : Type 0 where
  pub fits : FitsAlways p pool set
  pub no_groups : set.groups ≡ []
  pub shores : All (λ w. IsShoreOf p pool w.shore) set.weights
  pub belong : All (Belongs p) pool
  pub base : IsFloorBase p pool set
  pub weighed : WeighsEach pool set

-- so much is a value at most, either way
pub record IsValueWithin (value : ℤ) : Type 0 where
  pub low : neg_ℤ (pos 100000000000000000000000000) ≤ℤ value
  pub high : value ≤ℤ pos 100000000000000000000000000

-- such a set with its pool, and its value without decisions
pub record IsCandidate (p : Problem) (c : Candidate) : Type 0 where
  pub floor : IsFloorSet p c.pool c.set
  pub fine : IsPriceSet c.set
  pub value : c.value ≡ plain_value p c.pool c.set
  pub within : IsValueWithin c.value

-- the value of the first divided by its denominator is at most that of the second
abbrev pub IsNoMore : Candidate → Candidate → Type 0
IsNoMore one other = (pos other.set.unit *ℤ one.value) ≤ℤ (pos one.set.unit *ℤ other.value)
