-- The steps of a walk are on edges.
use Rattle.std.proofs.Common.{◌<◌, ℕ, zero, suc, List, [], ◌∷◌, length, arith, slice_index_or}
use Rattle.carp_base.specs.Problem.{Problem, IsEdgeNumber, edge_at, head_of}
use Rattle.plan_model.specs.declared.step.Step.{Step}
use Rattle.plan_model.specs.Plans.{Leads}

pub on_edges : (p : Problem) (a b : ℕ) (walk : List Step) → Leads p a walk b → (k : ℕ) (d : Step) → k < length walk → IsEdgeNumber p (slice_index_or walk k d).edge
on_edges p a b [] leads k d less = absurd (omega (arith, less))
on_edges p a b (s ∷ steps) leads zero d less = leads.0
on_edges p a b (s ∷ steps) leads (suc k) d less = on_edges p (head_of (edge_at p s.edge) s.forward) b steps leads.2 k d (omega (arith, less))
