-- Shores with weights, and weights on shores of a pool.
use Rattle.std.specs.Prelude.{ℕ, ◌<◌, List, length, map}
use Rattle.std.specs.List.{All}
use Rattle.std.specs.List.Sorted.{IsStrictlyIncreasing}
use Rattle.carp_base.specs.Problem.{Problem}
use Rattle.cut_pool.specs.Shores.{Belongs}
use Rattle.cut_pool.specs.declared.shore.Weighted.{Weighted}
use Rattle.branch_rules.specs.Limits.{IsFineWeight, IsPriceNumber}
use Rattle.branch_rules.specs.declared.weight.Weight.{Weight}

-- weights on shores of rising numbers, all below one
pub record AreListed (limit : ℕ) (weights : List Weight) : Type 0 where
  pub fine : All IsFineWeight weights
  pub below : All (λ w. w.shore < limit) weights
  pub rising : IsStrictlyIncreasing (map (λ w. w.shore) weights)
  pub few : length weights < limit

-- a shore of the instance with a weight within the limit
pub record IsWeighted (p : Problem) (s : Weighted) : Type 0 where
  pub belongs : Belongs p s.shore
  pub within : IsPriceNumber s.weight
