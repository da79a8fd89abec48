-- A pool that grows, and what it leaves as it was.
use Rattle.std.specs.Prelude.{◌≡◌, ℕ, ◌++◌, List}
use Rattle.std.specs.List.{All}
use Rattle.carp_base.specs.Problem.{Problem}
use Rattle.cut_pool.specs.Pools.{IsShoreNumber}
use Rattle.decision_chains.specs.declared.decision.Decision.{Decision}
use Rattle.branch_rules.specs.Prices.{Prices, value_of}
use Rattle.branch_rules.specs.Decisions.{rules_of}
use Rattle.branch_rules.specs.Laws.{FitsBranch}

-- under a branch a set fits with the second pool exactly if it fits with the first, and has the same value
pub record IsAsBefore (p : Problem) (pool after : List (List ℕ)) (branch : List Decision) (set : Prices) : Type 0 where
  pub fits : FitsBranch p pool branch set → FitsBranch p after branch set
  pub fitted : FitsBranch p after branch set → FitsBranch p pool branch set
  pub value : value_of (rules_of p after branch) set ≡ value_of (rules_of p pool branch) set

-- more shores behind those of a pool leave each set as it was whose shores are in the pool
abbrev pub GrowthKeepsSets : Type 0
GrowthKeepsSets =
    (p : Problem) (pool more : List (List ℕ)) (branch : List Decision) (set : Prices) →
    All (λ w. IsShoreNumber pool w.shore) set.weights → IsAsBefore p pool (pool ++ more) branch set
