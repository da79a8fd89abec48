-- A walk whose services are joined by least paths, and such a walk on the way, path by path. No public contract speaks of this.
use Rattle.std.specs.Prelude.{◌≡◌, ℕ, ◌+◌, ◌*◌, ◌≤◌, List, ◌++◌, ◌∷◌, [], length}
use Rattle.carp_base.specs.Problem.{Problem}
use Rattle.plan_model.specs.Plans.{IsWalk}
use Rattle.plan_model.specs.declared.step.Step.{Step}
use Rattle.deadhead_paths.specs.Prices.{Priced, AddsPath}
use Rattle.deadhead_paths.specs.Tidy.{served_steps, GoByLeastPaths, IsCheapest}

-- the cheapest walk with the services of another
pub record IsJoined (p : Problem) (walk joined : List Step) : Type 0 where
  pub leads : IsWalk p joined
  pub served : served_steps joined ≡ served_steps walk
  pub paths : GoByLeastPaths p (served_steps joined) p.depot p.depot joined
  pub cheapest : IsCheapest p joined
  pub short : length joined ≤ 1000 * length (served_steps walk) + 999

-- a path to the start of a step was added to a list of steps, and then the step
pub record AddsService (x : Priced) (at tail : ℕ) (s : Step) (before after : List Step) : Type 0 where
  pub middle : List Step
  pub path : AddsPath x at tail before middle
  pub added : after ≡ middle ++ s ∷ []
