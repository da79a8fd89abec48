-- What is known of each task of an order before it is cut. No public contract speaks of this.
use Rattle.std.specs.Prelude.{◌≡◌, ℕ, zero, suc, ◌+◌, ◌*◌, ◌<◌, ◌≤◌, false, List, length, take, slice_index_or}
use Rattle.carp_base.specs.declared.edge.Task.{Task}
use Rattle.carp_base.specs.Problem.{Problem, edge_at, head_of, tail_of}
use Rattle.deadhead_paths.specs.Prices.{IsLeastPrice, costs_of, price_of}
use Rattle.task_tours.specs.Tours.{tour_load}
use Rattle.giant_split.specs.declared.legs.Leg.{Leg}

-- the task at a place from 0, and where it starts and ends
abbrev pub no_task : Task
no_task = record { edge = 0; forward = false }

abbrev pub task_at : List Task → ℕ → Task
task_at order k = slice_index_or order k no_task

abbrev pub start_at : Problem → List Task → ℕ → ℕ
start_at p order k = tail_of (edge_at p (task_at order k).edge) (task_at order k).forward

abbrev pub end_at : Problem → List Task → ℕ → ℕ
end_at p order k = head_of (edge_at p (task_at order k).edge) (task_at order k).forward

-- the leg at a place from 0
abbrev pub no_leg : Leg
no_leg = record { out = 0; way = 0; home = 0; before = 0; after = 0 }

abbrev pub leg_at : List Leg → ℕ → Leg
leg_at legs k = slice_index_or legs k no_leg

-- where one stands before the task at a place, how long the way up to there is, and what load was served
abbrev pub stand_before : Problem → List Task → ℕ → ℕ
stand_before p order zero = p.depot
stand_before p order (suc k) = end_at p order k

abbrev pub way_before : List Leg → ℕ → ℕ
way_before legs zero = 0
way_before legs (suc k) = (leg_at legs k).way

abbrev pub load_before : List Leg → ℕ → ℕ
load_before legs zero = 0
load_before legs (suc k) = (leg_at legs k).after

-- the numbers of a leg are small, they rise along the order from the way and the load before, and a vehicle carries the task alone
pub record IsFineLeg (capacity k way load : ℕ) (leg : Leg) : Type 0 where
  pub out_small : leg.out ≤ 999000000
  pub home_small : leg.home ≤ 999000000
  pub way_small : leg.way ≤ 999000000 * (k + 1)
  pub load_small : leg.after ≤ 30000 * (k + 1)
  pub way_rises : way ≤ leg.way
  pub starts : leg.before ≡ load
  pub load_rises : load ≤ leg.after
  pub carried : leg.after ≤ leg.before + capacity

pub record AreFineLegs (capacity : ℕ) (legs : List Leg) : Type 0 where
  pub few : length legs ≤ 600
  pub little : capacity ≤ 30000
  pub each : (k : ℕ) → k < length legs → IsFineLeg capacity k (way_before legs k) (load_before legs k) (leg_at legs k)

-- the numbers of a leg are those of the task at its place: least costs from the depot and to it, the way from the task before, and
-- the demands of the tasks up to it
pub record IsLeg (p : Problem) (order : List Task) (k way load : ℕ) (leg : Leg) : Type 0 where
  pub out : IsLeastPrice p (price_of (costs_of p)) p.depot (start_at p order k) leg.out
  pub home : IsLeastPrice p (price_of (costs_of p)) (end_at p order k) p.depot leg.home
  pub link : ℕ
  pub linked : IsLeastPrice p (price_of (costs_of p)) (stand_before p order k) (start_at p order k) link
  pub way_is : leg.way ≡ way + link
  pub before_is : leg.before ≡ tour_load p (take k order)
  pub after_is : leg.after ≡ tour_load p (take (k + 1) order)
  pub fine : IsFineLeg p.capacity k way load leg

abbrev pub IsLegAt : Problem → List Task → List Leg → ℕ → Type 0
IsLegAt p order legs k = IsLeg p order k (way_before legs k) (load_before legs k) (leg_at legs k)

pub record AreLegs (p : Problem) (order : List Task) (legs : List Leg) : Type 0 where
  pub one_each : length legs ≡ length order
  pub few : length order ≤ 600
  pub little : p.capacity ≤ 30000
  pub each : (k : ℕ) → k < length order → IsLegAt p order legs k
