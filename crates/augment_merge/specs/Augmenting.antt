-- Tours of one service each that are taken one after another, and absorb services on their way (Golden, DeArmon and Baker 1983).
use Rattle.std.specs.Prelude.{◌≡◌, ℕ, ◌+◌, ◌-◌, ◌<◌, ◌≤◌, ◌==◌, ◌&&◌, ◌⊎◌, nat_le, Bool, true, false, not, List, [], ◌∷◌, ◌++◌, if◌then◌else◌}
use Rattle.std.specs.List.{list_any}
use Rattle.carp_base.specs.declared.edge.Task.{Task}
use Rattle.carp_base.specs.Problem.{Problem, IsRequired, edge_at}
use Rattle.plan_model.specs.declared.step.Step.{Step}
use Rattle.plan_model.specs.Plans.{walk_at, walk_cost}
use Rattle.deadhead_paths.specs.Singles.{service_of}
use Rattle.deadhead_paths.specs.Tours.{task_of}

-- one of the tasks is on the edge
abbrev pub is_among : ℕ → List Task → Bool
is_among e tasks = list_any (λ t. t.edge == e) tasks

-- the edge is required, its service stands in no taken tour, and it fits beside this load, if these tasks stand in taken tours
abbrev pub is_absorbed : Problem → List Task → ℕ → ℕ → Bool
is_absorbed p taken load e = nat_le 1 e && nat_le e p.required && not (is_among e taken) && nat_le (load + (edge_at p e).demand) p.capacity

-- what a taken tour of this load serves from these steps on: what they serve, and what is absorbed on deadheads, in the order
-- of the steps
abbrev pub augmented_tasks : Problem → List Task → ℕ → List Step → List Task
augmented_tasks p taken load [] = []
augmented_tasks p taken load (s ∷ steps) =
    if s.served then task_of s ∷ augmented_tasks p (taken ++ task_of s ∷ []) load steps
    else (
    if is_absorbed p taken load s.edge then task_of s ∷ augmented_tasks p (taken ++ task_of s ∷ []) (load + (edge_at p s.edge).demand) steps
    else augmented_tasks p taken load steps
    )

-- what the tour of one service costs, if these tours stand in the order of the edges
abbrev pub single_cost : Problem → List (List Step) → ℕ → ℕ
single_cost p singles e = walk_cost p (walk_at singles (e - 1))

-- the edge's tour is taken next, if these tasks stand in taken tours: it is the dearest of the tours whose service does not stand in one,
-- and of the dearest that of the least edge number
pub record IsTakenNext (p : Problem) (singles : List (List Step)) (taken : List Task) (e : ℕ) : Type 0 where
  pub required : IsRequired p e
  pub untaken : is_among e taken ≡ false
  pub dearest : (other : ℕ) → IsRequired p other → is_among other taken ≡ false →
      (single_cost p singles other < single_cost p singles e) ⊎ ((single_cost p singles e ≡ single_cost p singles other) × (e ≤ other))

-- the tour that is taken next, with what it absorbs; its own service stands in a taken tour from the beginning
pub record IsTakenTour (p : Problem) (singles : List (List Step)) (taken tour : List Task) : Type 0 where
  pub edge : ℕ
  pub next : IsTakenNext p singles taken edge
  pub tasks : tour ≡ augmented_tasks p (taken ++ task_of (service_of edge) ∷ []) (edge_at p edge).demand (walk_at singles (edge - 1))

-- these tours are taken one after another, if these tasks stand in taken tours before, until each required edge is served
abbrev pub AreAugmented : Problem → List (List Step) → List Task → List (List Task) → Type 0
AreAugmented p singles taken [] = (e : ℕ) → IsRequired p e → is_among e taken ≡ true
AreAugmented p singles taken (tour ∷ tours) = IsTakenTour p singles taken tour × AreAugmented p singles (taken ++ tour) tours
