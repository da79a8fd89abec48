-- Which services stand in taken tours, as it is kept, and tours that are taken one after another. No public contract speaks of this.
use Rattle.std.specs.Prelude.{◌≡◌, ℕ, ◌-◌, ◌<◌, ◌≤◌, ◌⊎◌, Bool, true, false, not, List, [], ◌∷◌, ◌++◌, length, slice_index_or}
use Rattle.std.specs.List.{count_by}
use Rattle.carp_base.specs.declared.edge.Task.{Task}
use Rattle.carp_base.specs.Problem.{Problem, IsRequired}
use Rattle.plan_model.specs.declared.step.Step.{Step}
use Rattle.deadhead_paths.specs.Singles.{AreLeastTours}
use Rattle.augment_merge.specs.Augmenting.{IsTakenTour, AreAugmented, augmented_tasks, is_among}

-- the flags say of each required edge in turn whether one of the tasks is on it
pub record FlagsSay (p : Problem) (flags : List Bool) (taken : List Task) : Type 0 where
  pub long : length flags ≡ p.required
  pub says : (e : ℕ) → IsRequired p e → slice_index_or flags (e - 1) false ≡ is_among e taken

-- the edge is required, and flagged
pub record IsFlagged (p : Problem) (flags : List Bool) (e : ℕ) : Type 0 where
  pub required : IsRequired p e
  pub flagged : slice_index_or flags (e - 1) false ≡ true

-- a tour of this load that was taken, and the flags after it, if these tasks stood in taken tours before
pub record IsAbsorbed (p : Problem) (load : ℕ) (walk : List Step) (after : List Bool) (taken tour : List Task) : Type 0 where
  pub tasks : tour ≡ augmented_tasks p taken load walk
  pub flags : FlagsSay p after (taken ++ tour)

-- how many edges have no flag
abbrev pub unflagged : List Bool → ℕ
unflagged flags = count_by not flags

-- of the places without a flag it is that of the greatest cost, and of these the first
pub record IsDearest (costs : List ℕ) (flags : List Bool) (end place : ℕ) : Type 0 where
  pub in_range : place < end
  pub unflagged : slice_index_or flags place false ≡ false
  pub dearest : (k : ℕ) → k < end → slice_index_or flags k false ≡ false →
      (slice_index_or costs k 0 < slice_index_or costs place 0) ⊎ ((slice_index_or costs place 0 ≡ slice_index_or costs k 0) × (place ≤ k))

-- tours that are taken one after another, of which there may be more
abbrev pub AreTaken : Problem → List (List Step) → List Task → List (List Task) → Type 0
AreTaken p singles taken [] = Unit {0}
AreTaken p singles taken (tour ∷ tours) = IsTakenTour p singles taken tour × AreTaken p singles (taken ++ tour) tours

-- all tours were taken, of some tours of one service each
pub record IsAugmented (p : Problem) (tours : List (List Task)) : Type 0 where
  pub singles : List (List Step)
  pub single : AreLeastTours p singles
  pub taken : AreAugmented p singles [] tours
  pub few : length tours ≤ 600
