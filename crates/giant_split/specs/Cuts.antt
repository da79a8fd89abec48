-- Cuttings of an order, in numbers and in tasks. No public contract speaks of this.
use Rattle.std.specs.Prelude.{◌≡◌, ◌≢◌, ℕ, ◌+◌, ◌*◌, ◌<◌, ◌≤◌, List, [], length, take, slice_index, slice_range}
use Rattle.std.specs.List.{AllByRecursion}
use Rattle.carp_base.specs.declared.edge.Task.{Task}
use Rattle.carp_base.specs.Problem.{Problem}
use Rattle.plan_model.specs.declared.step.Step.{Step}
use Rattle.deadhead_paths.specs.Prices.{costs_of, price_of}
use Rattle.deadhead_paths.specs.Tours.{LeastDeadhead}
use Rattle.task_tours.specs.Tours.{PlanGoesByLeastPaths, ToursDeadhead, all_tasks, plan_tours, tour_load}
use Rattle.giant_split.specs.declared.legs.Leg.{Leg}
use Rattle.giant_split.specs.Legs.{leg_at}

-- the way up to the last task of a tour, from there home, and what the rest of the order costs
abbrev pub onward : List Leg → List ℕ → ℕ → ℕ
onward legs costs last = (leg_at legs last).way + (leg_at legs last).home + slice_index costs (last + 1)

-- the tasks from one place to another fit a vehicle
abbrev pub LegsFit : ℕ → List Leg → ℕ → ℕ → Type 0
LegsFit capacity legs from last = (leg_at legs last).after ≤ (leg_at legs from).before + capacity

-- what the rest of the order costs is small
abbrev pub IsSmallCost : List Leg → List ℕ → ℕ → Type 0
IsSmallCost legs costs k = slice_index costs k + 2000000000 * k ≤ 2000000000 * length legs

-- of the places below n where the tour can end, one from which it is cheapest
pub record IsBestLast (capacity : ℕ) (legs : List Leg) (costs : List ℕ) (from n last : ℕ) : Type 0 where
  pub later : from ≤ last
  pub within : last < n
  pub fits : LegsFit capacity legs from last
  pub best : (k : ℕ) → from ≤ k → k < n → LegsFit capacity legs from k → onward legs costs last ≤ onward legs costs k

-- the first tour of the rest of an order ends where the rest is cheapest, and this is what the rest costs
pub record IsCutAt (capacity : ℕ) (legs : List Leg) (costs lasts : List ℕ) (from : ℕ) : Type 0 where
  pub last : IsBestLast capacity legs costs from (length legs) (slice_index lasts from)
  pub cost : slice_index costs from + (leg_at legs from).way ≡ (leg_at legs from).out + onward legs costs (slice_index lasts from)
  pub small : IsSmallCost legs costs from

-- so it is for each rest from a place on, and after the last task nothing costs
pub record AreCutFrom (capacity : ℕ) (legs : List Leg) (costs lasts : List ℕ) (from : ℕ) : Type 0 where
  pub costs_long : length costs ≡ length legs + 1
  pub lasts_long : length lasts ≡ length legs
  pub at_end : slice_index costs (length legs) ≡ 0
  pub each : (k : ℕ) → from ≤ k → k < length legs → IsCutAt capacity legs costs lasts k

-- the first tour of the rest of an order, and what the rest costs
pub record IsTourAt (p : Problem) (order : List Task) (costs lasts : List ℕ) (from : ℕ) : Type 0 where
  pub later : from ≤ slice_index lasts from
  pub within : slice_index lasts from < length order
  pub load : tour_load p (slice_range order from (slice_index lasts from + 1)) ≤ p.capacity
  pub deadhead : ℕ
  pub least : LeastDeadhead p (price_of (costs_of p)) p.depot (slice_range order from (slice_index lasts from + 1)) p.depot deadhead
  pub cost : slice_index costs from ≡ deadhead + slice_index costs (slice_index lasts from + 1)

-- an order is cut into tours, and no other tours in this order have less to deadhead
pub record IsCutOrder (p : Problem) (order : List Task) (costs lasts : List ℕ) : Type 0 where
  pub lasts_long : length lasts ≡ length order
  pub at_end : slice_index costs (length order) ≡ 0
  pub each : (k : ℕ) → k < length order → IsTourAt p order costs lasts k
  pub least : (tours : List (List Task)) (n : ℕ) → all_tasks tours ≡ order → AllByRecursion (λ tour. tour_load p tour ≤ p.capacity) tours → ToursDeadhead p (price_of (costs_of p)) tours n → slice_index costs 0 ≤ n

-- a plan of the tours up to a place
pub record IsSplitTo (p : Problem) (order : List Task) (costs : List ℕ) (from : ℕ) (plan : List (List Step)) : Type 0 where
  pub within : from ≤ length order
  pub few : length plan ≤ from
  pub in_order : all_tasks (plan_tours plan) ≡ take from order
  pub each_serves : AllByRecursion (λ tour. tour ≢ []) (plan_tours plan)
  pub loads : AllByRecursion (λ tour. tour_load p tour ≤ p.capacity) (plan_tours plan)
  pub paths : PlanGoesByLeastPaths p plan
  pub deadhead : ℕ
  pub least : ToursDeadhead p (price_of (costs_of p)) (plan_tours plan) deadhead
  pub cost : deadhead + slice_index costs from ≡ slice_index costs 0
