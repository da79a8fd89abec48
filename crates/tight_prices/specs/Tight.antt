-- Price sets of which no single number can be raised.
use Rattle.std.specs.Prelude.{◌≡◌, ℕ, zero, suc, ◌<◌, ◌≤◌, ℤ, pos, negsuc, ◌+ℤ◌, ◌≤ℤ◌, ◌==◌, nat_lt, if◌then◌else◌, List, [], ◌∷◌, length, ◌⊎◌}
use Rattle.carp_base.specs.Problem.{Problem, IsRequired}
use Rattle.cut_pool.specs.Shores.{is_in, need}
use Rattle.cut_pool.specs.Pools.{IsShoreNumber, shore_at}
use Rattle.decision_chains.specs.declared.decision.Decision.{Decision}
use Rattle.branch_rules.specs.Laws.{FitsBranch}
use Rattle.branch_rules.specs.Prices.{Prices, price_in}
use Rattle.branch_rules.specs.declared.weight.Weight.{Weight}

-- a list with the number at a place from 0 greater by d
abbrev pub add_at : ℕ → ℕ → List ℤ → List ℤ
add_at k d [] = []
add_at zero d (z ∷ zs) = (z +ℤ pos d) ∷ zs
add_at (suc k) d (z ∷ zs) = z ∷ add_at k d zs

-- prices in the order of the edges with that of the edge of a number from 1 greater by d
abbrev pub add_price : ℕ → ℕ → List ℤ → List ℤ
add_price zero d prices = prices
add_price (suc k) d prices = add_at k d prices

-- the set with the price of serving an edge greater by d
abbrev pub with_price : Prices → ℕ → ℕ → Prices
with_price set e d = record { unit = set.unit; services = add_price e d set.services; weights = set.weights; groups = set.groups }

-- a weight before others; a weight of 0 does not stand
abbrev pub put_weight : ℕ → ℤ → List Weight → List Weight
put_weight shore (pos zero) weights = weights
put_weight shore (pos (suc n)) weights = record { shore = shore; weight = pos (suc n) } ∷ weights
put_weight shore (negsuc n) weights = record { shore = shore; weight = negsuc n } ∷ weights

-- weights on rising shores with the one of a shore greater by d, where one that does not stand is 0
abbrev pub add_weight : ℕ → ℕ → List Weight → List Weight
add_weight shore d [] = put_weight shore (pos d) []
add_weight shore d (w ∷ weights) =
    if nat_lt shore w.shore then put_weight shore (pos d) (w ∷ weights)
    else if w.shore == shore then put_weight shore (w.weight +ℤ pos d) weights else w ∷ add_weight shore d weights

-- the set with the weight on a shore greater by d
abbrev pub with_weight : Prices → ℕ → ℕ → Prices
with_weight set shore d = record { unit = set.unit; services = set.services; weights = add_weight shore d set.weights; groups = set.groups }

-- the weight on a shore, and 0 where there is none
abbrev pub weight_on : List Weight → ℕ → ℤ
weight_on [] shore = pos 0
weight_on (w ∷ weights) shore = if w.shore == shore then w.weight else weight_on weights shore

-- the price of an edge cannot be raised: it is 10^15, or the set with the price greater by 1 does not fit
abbrev pub IsPriceTight : Problem → List (List ℕ) → List Decision → Prices → ℕ → Type 0
IsPriceTight p pool branch set e = (price_in set e ≡ pos 1000000000000000) ⊎ ¬ (FitsBranch p pool branch (with_price set e 1))

-- the same of the weight on a shore
abbrev pub IsWeightTight : Problem → List (List ℕ) → List Decision → Prices → ℕ → Type 0
IsWeightTight p pool branch set shore = (weight_on set.weights shore ≡ pos 1000000000000000) ⊎ ¬ (FitsBranch p pool branch (with_weight set shore 1))

-- the shore of a number is of just one vertex, over which some deadhead is needed
pub record IsNeededSingle (p : Problem) (pool : List (List ℕ)) (shore : ℕ) : Type 0 where
  pub number : IsShoreNumber pool shore
  pub v : ℕ
  pub single : shore_at pool shore ≡ v ∷ []
  pub needed : 0 < need p (is_in (v ∷ []))

-- the set fits under the branch, and none of its prices can be raised, and none of the weights on needed shores of one vertex among the
-- first so many of the pool, where a shore without a weight has the weight 0
pub record IsTight (p : Problem) (pool : List (List ℕ)) (known : ℕ) (branch : List Decision) (set : Prices) : Type 0 where
  pub fits : FitsBranch p pool branch set
  pub prices : (e : ℕ) → IsRequired p e → IsPriceTight p pool branch set e
  pub weights : (shore : ℕ) → shore ≤ known → IsNeededSingle p pool shore → IsWeightTight p pool branch set shore

-- the weights of the two sets are the same on each shore of which a property does not hold
abbrev pub AreKept : (ℕ → Type 0) → Prices → Prices → Type 0
AreKept Changes set other = (shore : ℕ) → ¬ (Changes shore) → weight_on other.weights shore ≡ weight_on set.weights shore

-- no price and no weight of the first set is above that of the second, and they have the same denominator, as many prices and the same
-- weights on groups
pub record IsNoHigher (set other : Prices) : Type 0 where
  pub unit : set.unit ≡ other.unit
  pub services : length set.services ≡ length other.services
  pub prices : (e : ℕ) → price_in set e ≤ℤ price_in other e
  pub weights : (shore : ℕ) → weight_on set.weights shore ≤ℤ weight_on other.weights shore
  pub groups : set.groups ≡ other.groups
