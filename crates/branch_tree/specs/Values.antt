-- Values that reach the floors of the bound, or a bound.
use Rattle.std.specs.Prelude.{ℕ, zero, suc, ◌+◌, ◌*◌, ◌≤◌, Bool, List, ℤ, pos, negsuc, ◌*ℤ◌, ◌≤ℤ◌}
use Rattle.carp_base.specs.Problem.{Problem, required_cost, total_demand}
use Rattle.plan_model.specs.Plans.{IsLawful, plan_cost}
use Rattle.plan_model.specs.declared.step.Step.{Step}
use Rattle.capacity_cuts.specs.Levels.{AreLevelSets, needs_below}
use Rattle.matching_duals.specs.Joins.{IsLeastJoin}
use Rattle.dual_master.specs.Floors.{IsLeastCostRatio}
use Rattle.grown_trees.specs.Growth.{Fraction}

-- The fraction is at least each floor: the service costs, and these with the needs of the level sets of all levels (Shell), with the total
-- demand times the least ratio of a relaxed tour's deadhead and load (Ratio), or with the least cost of deadheads that make every vertex
-- even (Join).
pub record IsAtLeastFloors (p : Problem) (base : Fraction) : Type 0 where
  pub services : pos (base.unit * required_cost p) ≤ℤ base.value
  pub shell : (level : ℕ → ℕ → Bool) (k : ℕ) → AreLevelSets p level → 1000000000 ≤ k →
      pos (base.unit * (required_cost p + needs_below p level k)) ≤ℤ base.value
  pub ratio : (deadhead load : ℕ) → IsLeastCostRatio p deadhead load →
      pos (base.unit * (required_cost p * load + total_demand p * deadhead)) ≤ℤ (base.value *ℤ pos load)
  pub join : (value : ℕ) → IsLeastJoin p value → pos (base.unit * (required_cost p + value)) ≤ℤ base.value

-- such a fraction, and no lawful plan costs less
pub record ReachesFloors (p : Problem) (base : Fraction) : Type 0 where
  pub some_unit : 1 ≤ base.unit
  pub floors : IsAtLeastFloors p base
  pub below : (plan : List (List Step)) → IsLawful p plan → base.value ≤ℤ pos (base.unit * plan_cost p plan)

-- a bound that is at least a fraction that reaches the floors
pub record IsFloored (p : Problem) (bound : ℕ) : Type 0 where
  pub base : Fraction
  pub floors : ReachesFloors p base
  pub above : base.value ≤ℤ pos (base.unit * bound)

-- A bound less 1, and a millionth more, in millionths. A set whose denominator is at most 1,000,000 shows the bound exactly if its value,
-- divided by its denominator, is at least this.
abbrev pub millionths : ℕ → ℤ
millionths zero = negsuc 999998
millionths (suc bound) = pos (1000000 * bound + 1)

abbrev pub just_above : ℕ → Fraction
just_above bound = record { unit = 1000000; value = millionths bound }
