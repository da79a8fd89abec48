-- The steps of a lawful plan are on edges of the instance.
use Rattle.std.proofs.Common.{ℕ, List, [], ◌∷◌, arith, All}
use Rattle.std.specs.List.{AllByRecursion}
use Rattle.std.proofs.lemmas.List.Elements.{All-nil, All-cons}
use Rattle.carp_base.specs.Problem.{Problem, IsValid}
use Rattle.plan_model.specs.declared.step.Step.{Step}
use Rattle.plan_model.specs.Plans.{IsLawfulWalk, Leads}
use Rattle.cert_lines.specs.Ranges.{IsWithin}
use Rattle.cert_format.specs.Good.{PlansAreOnEdges}

abbrev IsOnEdge : Step → Type 0
IsOnEdge s = IsWithin 1 4000 s.edge

walk_on_edges : (p : Problem) → IsValid p → (a b : ℕ) (walk : List Step) → Leads p a walk b → All IsOnEdge walk
walk_on_edges p valid a b [] leads = All-nil IsOnEdge
walk_on_edges p valid a b (s ∷ walk) leads =
    All-cons IsOnEdge s walk (record { from_first = leads.0.from_one; to_last = omega (arith, leads.0.in_range, valid.few_edges) }) (walk_on_edges p valid _ b walk leads.2)

edges_in : (p : Problem) → IsValid p → (plan : List (List Step)) → AllByRecursion (IsLawfulWalk p) plan → All (All (λ s. IsWithin 1 4000 s.edge)) plan
edges_in p valid [] walks = All-nil (All IsOnEdge)
edges_in p valid (walk ∷ plan) walks = All-cons (All IsOnEdge) walk plan (walk_on_edges p valid p.depot p.depot walk walks.0.leads) (edges_in p valid plan walks.1)

pub on_edges : PlansAreOnEdges
on_edges p plan valid lawful = edges_in p valid plan lawful.walks
