-- Tables of costs. Members are numbered from 0.
use Rattle.std.specs.Prelude.{◌≡◌, ℕ, ◌+◌, ◌*◌, ◌<◌, ◌≤◌, ◌%◌, length, slice_index}
use Rattle.blossom_match.specs.declared.costs.Costs.{Costs}
use Rattle.blossom_match.specs.declared.costs.TheConstants.{MAX_COST}

-- the cost between two members
abbrev pub cost : Costs → ℕ → ℕ → ℕ
cost costs u v = slice_index costs.cells.items (u * costs.size + v)

-- a table of at most 1,000 members, the same in both orders
pub record IsTable (costs : Costs) : Type 0 where
  pub few : costs.size ≤ 1000
  pub cells_len : length costs.cells.items ≡ costs.size * costs.size
  pub small : (u v : ℕ) → cost costs u v ≤ MAX_COST
  pub same : (u v : ℕ) → u < costs.size → v < costs.size → cost costs u v ≡ cost costs v u

-- the cost of one pair is written, in both orders, and the others stay
pub record IsWritten (before now : Costs) (u v value : ℕ) : Type 0 where
  pub size : now.size ≡ before.size
  pub there : cost now u v ≡ value
  pub back : cost now v u ≡ value
  pub others : (x y : ℕ) → x < before.size → y < before.size → (x ≡ u → y ≡ v → ⊥) → (x ≡ v → y ≡ u → ⊥) → cost now x y ≡ cost before x y

abbrev pub IsMetric : Costs → Type 0
IsMetric costs = (u v w : ℕ) → u < costs.size → v < costs.size → w < costs.size → cost costs u w ≤ cost costs u v + cost costs v w

-- what a matching is asked of
pub record IsAsked (costs : Costs) : Type 0 where
  pub table : IsTable costs
  pub metric : IsMetric costs
  pub even : costs.size % 2 ≡ 0
