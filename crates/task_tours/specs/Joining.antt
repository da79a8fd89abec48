-- A walk on its way through tasks. No public contract speaks of this.
use Rattle.std.specs.Prelude.{◌≡◌, ℕ, true, List, [], ◌∷◌, ◌++◌, map}
use Rattle.carp_base.specs.declared.edge.Task.{Task}
use Rattle.carp_base.specs.Problem.{Problem, edge_at, tail_of, head_of}
use Rattle.plan_model.specs.declared.step.Step.{Step}
use Rattle.deadhead_paths.specs.Prices.{IsLeastPath, price_of, costs_of}

-- a task as a step that serves
abbrev pub service_step : Task → Step
service_step t = record { edge = t.edge; forward = t.forward; served = true }

abbrev pub service_steps : List Task → List Step
service_steps tasks = map service_step tasks

-- from a the steps go by a least path to each of these services in turn and over it, and so end at b
abbrev pub GoesThrough : Problem → List Step → ℕ → ℕ → List Step → Type 0
GoesThrough p [] a b steps = (a ≡ b) × (steps ≡ [])
GoesThrough p (s ∷ services) a b steps =
    (out rest : List Step) × IsLeastPath p (price_of (costs_of p)) a (tail_of (edge_at p s.edge) s.forward) out
    × (steps ≡ out ++ s ∷ rest) × GoesThrough p services (head_of (edge_at p s.edge) s.forward) b rest
