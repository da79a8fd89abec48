-- Laws over all lawful plans, and over what a judge answers.
use Rattle.std.specs.Prelude.{◌≡◌, ℕ, ◌<◌, ◌≤◌, ◌↔◌, Bool, List, IsTrue, if◌then◌else◌, length, sum_by}
use Rattle.carp_base.specs.declared.edge.Edge.{Edge}
use Rattle.carp_base.specs.Problem.{Problem, IsValid, IsRequired, edge_at, required_cost, required_edges}
use Rattle.plan_model.specs.Sums.{sum_to}
use Rattle.plan_model.specs.Plans.{IsLawful, plan_cost, steps_of, step_at, serves, crosses, deadheads_on, deadheads_over}
use Rattle.plan_model.specs.Verdicts.{IsVerdict, VerdictApplies, IsFailing}
use Rattle.plan_model.specs.declared.step.Step.{Step}
use Rattle.plan_model.specs.declared.verdict.Verdict.{Verdict}
use Rattle.plan_model.specs.declared.verdict.Verdict.TheVariants.{Lawful}

-- no lawful plan, of any number of walks of any length, costs less than the bound
abbrev pub IsLowerBound : Problem → ℕ → Type 0
IsLowerBound p bound = (plan : List (List Step)) → IsLawful p plan → bound ≤ plan_cost p plan

-- every lawful plan costs at least what serving its required edges costs
abbrev pub RequiredCostIsLeast : Type 0
RequiredCostIsLeast = (p : Problem) → IsValid p → IsLowerBound p (required_cost p)

-- what the services of a lawful plan sum to, by the edges' numbers, is the sum over the required edges
abbrev pub ServedOnceByNumber : Type 0
ServedOnceByNumber = (p : Problem) (plan : List (List Step)) (g : ℕ → ℕ) → IsLawful p plan →
    sum_by (λ s. if s.served then g s.edge else 0) (steps_of plan) ≡ sum_to p.required g

-- the same for what is read off the edges
abbrev pub ServedOnceByEdge : Type 0
ServedOnceByEdge = (p : Problem) (plan : List (List Step)) (g : Edge → ℕ) → IsValid p → IsLawful p plan →
    sum_by (λ s. if s.served then g (edge_at p s.edge) else 0) (steps_of plan) ≡ sum_by g (required_edges p)

-- the step at this place serves the edge, and no step at another place does
pub record ServedOnlyAt (steps : List Step) (e : ℕ) (place : ℕ) : Type 0 where
  pub in_range : place < length steps
  pub served : IsTrue (serves e (step_at steps place))
  pub only : (k : ℕ) → k < length steps → IsTrue (serves e (step_at steps k)) → k ≡ place

-- one step of a lawful plan serves a required edge, and no other does
abbrev pub ServedByOneStep : Type 0
ServedByOneStep = (p : Problem) (plan : List (List Step)) (e : ℕ) → IsLawful p plan → IsRequired p e →
    (place : ℕ) × ServedOnlyAt (steps_of plan) e place

-- the deadheads over a set are those on the edges that cross it; the plan need not be lawful
abbrev pub DeadheadsByEdge : Type 0
DeadheadsByEdge = (p : Problem) (inside : ℕ → Bool) (plan : List (List Step)) →
    deadheads_over p inside plan ≡ sum_to (length p.edges) (λ e. if crosses inside (edge_at p e) then deadheads_on e plan else 0)

-- a plan has at most one verdict
abbrev pub VerdictIsUnique : Type 0
VerdictIsUnique = (p : Problem) (plan : List (List Step)) (v w : Verdict) → IsVerdict p plan v → IsVerdict p plan w → v ≡ w

-- the verdict says that the plan is lawful, and what it costs, exactly where it is lawful and costs that
abbrev pub LawfulVerdictIsExact : Type 0
LawfulVerdictIsExact = (p : Problem) (plan : List (List Step)) (cost : ℕ) →
    IsVerdict p plan (Lawful cost) ↔ (IsLawful p plan × (cost ≡ plan_cost p plan))

-- a plan is lawful exactly where no verdict that says that something is wrong applies
abbrev pub FailuresAreComplete : Type 0
FailuresAreComplete = (p : Problem) (plan : List (List Step)) →
    IsLawful p plan ↔ ((v : Verdict) → IsFailing v → ¬ (VerdictApplies p plan v))
