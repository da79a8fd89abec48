-- What a pass over a plan finds. Places count from 0. No public contract speaks of this.
use Rattle.std.specs.Prelude.{◌≡◌, ℕ, ◌+◌, ◌-◌, ◌<◌, ◌≤◌, List, length, Option, MatchOption, count_by, min, slice_index}
use Rattle.carp_base.specs.Problem.{Problem, IsEdgeNumber, IsRequired}
use Rattle.plan_model.specs.declared.step.Step.{Step}
use Rattle.plan_model.specs.Plans.{serves, step_at, walk_at, walk_load}
use Rattle.plan_model.specs.Verdicts.{start_of, end_of}

-- the first place below n at which P does not hold
pub record IsFirstNot (n : ℕ) (P : ℕ → Type 0) (i : ℕ) : Type 0 where
  pub in_range : i < n
  pub fails : ¬ (P i)
  pub before : (k : ℕ) → k < i → P k

-- that place, or none where P holds at each
abbrev pub FindsNot : ℕ → (ℕ → Type 0) → Option ℕ → Type 0
FindsNot n P found = MatchOption found ((k : ℕ) → k < n → P k) (IsFirstNot n P)

-- the step at a place is on an edge, and starts where the step before it ends
pub record ContinuesAt (p : Problem) (walk : List Step) (i : ℕ) : Type 0 where
  pub on_edge : IsEdgeNumber p (step_at walk i).edge
  pub joined : 0 < i → start_of p (step_at walk i) ≡ end_of p (step_at walk (i - 1))

-- each step of the walk does
abbrev pub Continues : Problem → List Step → Type 0
Continues p walk = (i : ℕ) → i < length walk → ContinuesAt p walk i

-- the first broken step of a plan, or none
abbrev pub FindsBroken : Problem → List (List Step) → Option (ℕ × ℕ) → Type 0
FindsBroken p plan found =
    MatchOption found ((k : ℕ) → k < length plan → Continues p (walk_at plan k))
    (λ at. IsFirstNot (length plan) (λ k. Continues p (walk_at plan k)) at.0
    × IsFirstNot (length (walk_at plan at.0)) (ContinuesAt p (walk_at plan at.0)) at.1)

-- the walk starts and ends at the depot, if it has steps
pub record IsAtDepot (p : Problem) (walk : List Step) : Type 0 where
  pub starts : 0 < length walk → start_of p (step_at walk 0) ≡ p.depot
  pub ends : 0 < length walk → end_of p (step_at walk (length walk - 1)) ≡ p.depot

-- the least number that meets P, or none
abbrev pub FindsLeast : (ℕ → Type 0) → Option ℕ → Type 0
FindsLeast P found = MatchOption found ((e : ℕ) → ¬ (P e)) (λ e. P e × ((d : ℕ) → P d → e ≤ d))

-- the steps serve the edge, which is not required
abbrev pub ServesOtherIn : Problem → List Step → ℕ → Type 0
ServesOtherIn p steps e = ¬ (IsRequired p e) × (1 ≤ count_by (serves e) steps)

-- the counts, by edges from 1, are higher by so much, or 2 where that is more
abbrev pub CountsMore : List ℕ → (ℕ → ℕ) → List ℕ → Type 0
CountsMore before more now = (k : ℕ) → k < length before → slice_index now k ≡ min 2 (slice_index before k + more (k + 1))

-- the first overloaded walk and its load, or none
abbrev pub FindsOverload : Problem → List (List Step) → Option (ℕ × ℕ) → Type 0
FindsOverload p plan found =
    MatchOption found ((k : ℕ) → k < length plan → walk_load p (walk_at plan k) ≤ p.capacity)
    (λ at. IsFirstNot (length plan) (λ k. walk_load p (walk_at plan k) ≤ p.capacity) at.0 × (at.1 ≡ walk_load p (walk_at plan at.0)))
