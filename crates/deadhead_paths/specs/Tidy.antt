-- What tidying a plan does.
use Rattle.std.specs.Prelude.{◌≡◌, ◌≤◌, Bool, List, length, map, filter, ℕ, ◌++◌, ◌∷◌, []}
use Rattle.std.specs.List.{AllByRecursion, list_any}
use Rattle.carp_base.specs.Problem.{Problem, edge_at, tail_of, head_of}
use Rattle.plan_model.specs.Plans.{IsWalk, IsLawful, walk_cost, plan_cost, steps_of}
use Rattle.plan_model.specs.declared.step.Step.{Step}
use Rattle.deadhead_paths.specs.Prices.{IsLeastPath, price_of, costs_of}

-- the steps of a walk that serve, in their order and direction
abbrev pub served_steps : List Step → List Step
served_steps walk = filter (λ s. s.served) walk

abbrev pub serves_some : List Step → Bool
serves_some walk = list_any (λ s. s.served) walk

-- no walk with the same services, in the same order and direction, costs less
abbrev pub IsCheapest : Problem → List Step → Type 0
IsCheapest p walk = (other : List Step) → IsWalk p other → served_steps other ≡ served_steps walk → walk_cost p walk ≤ walk_cost p other

-- from a the steps go by a least path to each of these services in turn and over it, and then by a least path to b, where a
-- crossing costs the edge's cost
abbrev pub GoByLeastPaths : Problem → List Step → ℕ → ℕ → List Step → Type 0
GoByLeastPaths p [] a b steps = IsLeastPath p (price_of (costs_of p)) a b steps
GoByLeastPaths p (s ∷ services) a b steps =
    (out rest : List Step) × IsLeastPath p (price_of (costs_of p)) a (tail_of (edge_at p s.edge) s.forward) out
    × (steps ≡ out ++ s ∷ rest) × GoByLeastPaths p services (head_of (edge_at p s.edge) s.forward) b rest

-- a lawful plan of the same services tour by tour, where tours without service are left out and each other is joined by least
-- paths, and is the cheapest walk with its services
pub record IsTidied (p : Problem) (plan tidied : List (List Step)) : Type 0 where
  pub lawful : IsLawful p tidied
  pub services : map served_steps tidied ≡ map served_steps (filter serves_some plan)
  pub by_least_paths : AllByRecursion (λ walk. GoByLeastPaths p (served_steps walk) p.depot p.depot walk) tidied
  pub cheapest : AllByRecursion (IsCheapest p) tidied
  pub cost : plan_cost p tidied ≤ plan_cost p plan
  pub few_tours : length tidied ≤ p.required
  pub few_steps : length (steps_of tidied) ≤ 2000000
