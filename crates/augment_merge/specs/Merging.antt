-- Tours that are joined by the joins that save most, until no join saves (Golden and Wong 1981).
use Rattle.std.specs.Prelude.{◌≡◌, ℕ, ◌+◌, ◌<◌, ◌≤◌, ◌⊎◌, Bool, List, [], ◌∷◌, length, filter, slice_index_or, slice_set, if◌then◌else◌, true, false}
use Rattle.carp_base.specs.declared.edge.Task.{Task}
use Rattle.carp_base.specs.Problem.{Problem}
use Rattle.plan_model.specs.declared.step.Step.{Step}
use Rattle.deadhead_paths.specs.Prices.{price_of, costs_of}
use Rattle.deadhead_paths.specs.Singles.{AreLeastTours}
use Rattle.deadhead_paths.specs.Tours.{LeastDeadhead}
use Rattle.task_tours.specs.Tours.{plan_tours, tour_load, PlanGoesByLeastPaths}
use Rattle.augment_merge.specs.declared.joins.Join.{Join}
use Rattle.augment_merge.specs.Augmenting.{AreAugmented}
use Rattle.augment_merge.specs.Joins.{joined_tour}

-- the tour at a place from 0
abbrev pub nth_tour : List (List Task) → ℕ → List Task
nth_tour tours k = slice_index_or tours k []

-- the tour that a join makes
abbrev pub tour_of_join : List (List Task) → Join → List Task
tour_of_join tours j = joined_tour j.turn_first j.turn_second (nth_tour tours j.first) (nth_tour tours j.second)

-- the tours after a join: the joined one in place of the earlier of the two, and one without tasks in place of the later
abbrev pub after_join : List (List Task) → Join → List (List Task)
after_join tours j = slice_set (slice_set tours j.first (tour_of_join tours j)) j.second []

-- by so much the least deadhead of the joined tour is below those of the two together, by the costs of the edges
pub record IsSaving (p : Problem) (first second joined : List Task) (saving : ℕ) : Type 0 where
  pub deadhead_of_first : ℕ
  pub deadhead_of_second : ℕ
  pub deadhead_of_joined : ℕ
  pub first_least : LeastDeadhead p (price_of (costs_of p)) p.depot first p.depot deadhead_of_first
  pub second_least : LeastDeadhead p (price_of (costs_of p)) p.depot second p.depot deadhead_of_second
  pub joined_least : LeastDeadhead p (price_of (costs_of p)) p.depot joined p.depot deadhead_of_joined
  pub saved : deadhead_of_first + deadhead_of_second ≡ deadhead_of_joined + saving

-- a join of two tours whose load fits a vehicle, that saves so much, and something
pub record IsSavingJoin (p : Problem) (tours : List (List Task)) (j : Join) : Type 0 where
  pub order : j.first < j.second
  pub in_range : j.second < length tours
  pub fits : tour_load p (nth_tour tours j.first) + tour_load p (nth_tour tours j.second) ≤ p.capacity
  pub saves : IsSaving p (nth_tour tours j.first) (nth_tour tours j.second) (tour_of_join tours j) j.saving
  pub some : 1 ≤ j.saving

-- the place of a join's way among the four: both tours as they stand, the second reversed, the first reversed, both reversed
abbrev pub way_number : Join → ℕ
way_number j = (if j.turn_first then 2 else 0) + (if j.turn_second then 1 else 0)

-- a join goes before another, or is the same: the one that saves more; of equal ones that of the earlier pair, by the first tour
-- and then by the second; and of one pair the earlier way
abbrev pub JoinNoLater : Join → Join → Type 0
JoinNoLater j k =
    (k.saving < j.saving) ⊎ ((j.saving ≡ k.saving) × (
    (j.first < k.first) ⊎ ((j.first ≡ k.first) × (
    (j.second < k.second) ⊎ ((j.second ≡ k.second) × (way_number j ≤ way_number k))))))

-- of all joins that save, the one that none other goes before
pub record IsBestJoin (p : Problem) (tours : List (List Task)) (j : Join) : Type 0 where
  pub can : IsSavingJoin p tours j
  pub first : (other : Join) → IsSavingJoin p tours other → JoinNoLater j other

-- these joins, each of them the best one, lead from some tours to others
abbrev pub JoinsLead : Problem → List (List Task) → List Join → List (List Task) → Type 0
JoinsLead p tours [] merged = tours ≡ merged
JoinsLead p tours (j ∷ joins) merged = IsBestJoin p tours j × JoinsLead p (after_join tours j) joins merged

-- the best join is made again and again, until none saves
pub record AreJoined (p : Problem) (tours merged : List (List Task)) : Type 0 where
  pub joins : List Join
  pub leads : JoinsLead p tours joins merged
  pub none_saves : (j : Join) → IsSavingJoin p merged j → ⊥

-- the tour serves something
abbrev pub has_tasks : List Task → Bool
has_tasks [] = false
has_tasks (t ∷ ts) = true

-- the plan that augment-merge makes: of some tours of one service each, by least paths, that are taken and absorb, and then are
-- joined, the tours that are left, by least paths
pub record IsAugmentMerged (p : Problem) (plan : List (List Step)) : Type 0 where
  pub singles : List (List Step)
  pub augmented : List (List Task)
  pub merged : List (List Task)
  pub single : AreLeastTours p singles
  pub taken : AreAugmented p singles [] augmented
  pub joined : AreJoined p augmented merged
  pub tours : plan_tours plan ≡ filter has_tasks merged
  pub paths : PlanGoesByLeastPaths p plan
