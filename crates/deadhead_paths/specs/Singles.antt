-- Tours that serve one edge alone, by least paths.
use Rattle.std.specs.Prelude.{◌≡◌, ℕ, ◌-◌, true, List, [], ◌∷◌, length}
use Rattle.carp_base.specs.Problem.{Problem, IsRequired}
use Rattle.plan_model.specs.declared.step.Step.{Step}
use Rattle.plan_model.specs.Plans.{walk_at}
use Rattle.deadhead_paths.specs.Tidy.{GoByLeastPaths}

-- the step that serves an edge from its first end to its second
abbrev pub service_of : ℕ → Step
service_of e = record { edge = e; forward = true; served = true }

-- out to the edge by a least path, over it with service, and home by a least path
abbrev pub IsLeastTour : Problem → ℕ → List Step → Type 0
IsLeastTour p e walk = GoByLeastPaths p (service_of e ∷ []) p.depot p.depot walk

-- one such tour for each required edge, in rising number
pub record AreLeastTours (p : Problem) (plan : List (List Step)) : Type 0 where
  pub one_each : length plan ≡ p.required
  pub tours : (e : ℕ) → IsRequired p e → IsLeastTour p e (walk_at plan (e - 1))
