-- What a certificate that was found shows of its instance.
use Rattle.std.specs.Prelude.{◌≡◌, ℕ, ◌+◌, ◌*◌, ◌≤◌, Bool, List, [], length, Some}
use Rattle.carp_base.specs.Problem.{Problem, required_cost, total_demand}
use Rattle.deadhead_paths.specs.Singles.{AreLeastTours}
use Rattle.plan_model.specs.Plans.{IsLawful, plan_cost}
use Rattle.plan_model.specs.Laws.{IsLowerBound}
use Rattle.plan_model.specs.declared.step.Step.{Step}
use Rattle.capacity_cuts.specs.Levels.{AreLevelSets, needs_below}
use Rattle.matching_duals.specs.Joins.{IsLeastJoin}
use Rattle.dual_master.specs.Floors.{IsLeastCostRatio}
use Rattle.branch_rules.specs.Trees.{HasTurns, Shows}
use Rattle.cert_lines.specs.Certificates.{Certificate}
use Rattle.cert_lines.specs.Spelling.{IsSpellable, text_of}
use Rattle.cert_format.specs.Good.{IsGood, counts_in, support_of}
use Rattle.task_tours.specs.Shorts.{IsShortPlan}

-- a cost is at most that of one tour for each required edge by least paths
pub record IsAtMostSingles (p : Problem) (cost : ℕ) : Type 0 where
  pub singles : List (List Step)
  pub tours : AreLeastTours p singles
  pub lawful : IsLawful p singles
  pub at_most : cost ≤ plan_cost p singles

-- A bound is at least each floor: the service costs, and the needs of the level sets of all levels (Shell), the total demand times the
-- least ratio of a relaxed tour's deadhead and load (Ratio), or the least cost of deadheads that make every vertex even (Join).
pub record IsAboveFloors (p : Problem) (bound : ℕ) : Type 0 where
  pub shell : (level : ℕ → ℕ → Bool) (k : ℕ) → AreLevelSets p level → 1000000000 ≤ k → required_cost p + needs_below p level k ≤ bound
  pub ratio : (deadhead load : ℕ) → IsLeastCostRatio p deadhead load → required_cost p * load + total_demand p * deadhead ≤ bound * load
  pub join : (value : ℕ) → IsLeastJoin p value → required_cost p + value ≤ bound

-- A good certificate that can be spelled, with the numbers of the instance: its plan is lawful and costs what is stated, and no lawful
-- plan costs less than its bound. The plan is short and costs no more than single tours. The bound is the greatest up to the cost
-- that the tree shows, and at least what serving each required edge costs and each floor; the turns are those of the tree. Its text has at most 64,000,000
-- bytes.
pub record IsSound (p : Problem) (c : Certificate) (turns : ℕ) : Type 0 where
  pub good : IsGood p c
  pub bounds : IsLowerBound p c.bound
  pub spellable : IsSpellable c
  pub counts : c.counts ≡ Some (counts_in p)
  pub plan : IsShortPlan p c.plan
  pub no_dearer : IsAtMostSingles p c.cost
  pub not_above : c.bound ≤ c.cost
  pub greatest : (bound : ℕ) → bound ≤ c.cost → Shows (support_of p c) [] bound good.tree → bound ≤ c.bound
  pub services : required_cost p ≤ c.bound
  pub floors : IsAboveFloors p c.bound
  pub turns_are : HasTurns (support_of p c) [] c.cost good.tree turns
  pub small : length (text_of c) ≤ 64000000
