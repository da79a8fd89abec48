-- Shores in the order of discovery, each as its rising list.
use Rattle.std.specs.Prelude.{◌≡◌, ℕ, zero, suc, ◌<◌, ◌≤◌, List, [], ◌++◌, length, slice_index_or}
use Rattle.carp_base.specs.declared.fail.Fail.{Fail}
use Rattle.carp_base.specs.declared.fail.Fail.TheVariants.{Memory, Refused}
use Rattle.cut_pool.specs.declared.pool.PoolFull.{PoolFull}

-- the shore of a number from 1; 0 and the numbers past the last one are of no shore
abbrev pub shore_at : List (List ℕ) → ℕ → List ℕ
shore_at pool zero = []
shore_at pool (suc k) = slice_index_or pool k []

-- the number of a shore of the pool
pub record IsShoreNumber (pool : List (List ℕ)) (i : ℕ) : Type 0 where
  pub from_one : 1 ≤ i
  pub in_range : i ≤ length pool

-- the pool holds the shore under this number
pub record IsHeldAs (pool : List (List ℕ)) (shore : List ℕ) (i : ℕ) : Type 0 where
  pub number : IsShoreNumber pool i
  pub same : shore_at pool i ≡ shore

-- the pool holds the shore
abbrev pub Holds : List (List ℕ) → List ℕ → Type 0
Holds pool shore = (i : ℕ) × IsHeldAs pool shore i

-- no shore stands under two numbers
abbrev pub AreDifferent : List (List ℕ) → Type 0
AreDifferent pool = (i j : ℕ) → IsShoreNumber pool i → IsShoreNumber pool j → shore_at pool i ≡ shore_at pool j → i ≡ j

-- shores were added to a pool behind those that it held
pub record IsGrown (pool after : List (List ℕ)) : Type 0 where
  pub more : List (List ℕ)
  pub added : after ≡ pool ++ more

-- why a shore is not placed: it is new, and memory was not to be had, or 2,000 others are held
abbrev pub RefusesShore : List (List ℕ) → List ℕ → Fail PoolFull → Type 0
RefusesShore pool shore Memory = ¬ (Holds pool shore) × (length pool < 2000)
RefusesShore pool shore (Refused full) = ¬ (Holds pool shore) × (length pool ≡ 2000)
