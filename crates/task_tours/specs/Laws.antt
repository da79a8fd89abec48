-- Laws over plans and their tours, over all valid instances.
use Rattle.std.specs.Prelude.{◌≡◌, ℕ, ◌+◌, ◌≤◌, List, length}
use Rattle.std.specs.List.{AllByRecursion}
use Rattle.carp_base.specs.declared.edge.Task.{Task}
use Rattle.carp_base.specs.Problem.{Problem, IsValid, IsRequired, required_cost}
use Rattle.plan_model.specs.declared.step.Step.{Step}
use Rattle.plan_model.specs.Plans.{IsLawful, plan_cost}
use Rattle.deadhead_paths.specs.Prices.{IsLeastPrice, price_of, costs_of}
use Rattle.task_tours.specs.Tours.{IsStand, plan_tours, all_tasks, AreServedOnce, PlanGoesByLeastPaths, AreLawfulTours, ToursDeadhead}

-- from where a tour can stand there is a least price to where one can stand
abbrev pub StandsAreLinked : Type 0
StandsAreLinked = (p : Problem) → IsValid p → (q : ℕ → ℕ) (a b : ℕ) → IsStand p a → IsStand p b → (n : ℕ) × IsLeastPrice p q a b n

-- by cost it is small: fewer than 1,000 edges are crossed
abbrev pub LeastCostIsSmall : Type 0
LeastCostIsSmall = (p : Problem) → IsValid p → (a b n : ℕ) → IsLeastPrice p (price_of (costs_of p)) a b n → n ≤ 999000000

-- walks by least paths whose tours serve each required edge once within the capacity are a lawful plan
abbrev pub LawfulToursMakeLawfulPlans : Type 0
LawfulToursMakeLawfulPlans = (p : Problem) → IsValid p → (plan : List (List Step)) → PlanGoesByLeastPaths p plan → AreLawfulTours p (plan_tours plan) → IsLawful p plan

-- the tours of every lawful plan do so
abbrev pub LawfulPlansHaveLawfulTours : Type 0
LawfulPlansHaveLawfulTours = (p : Problem) (plan : List (List Step)) → IsLawful p plan → AreLawfulTours p (plan_tours plan)

-- tours of tasks on required edges have least deadheads
abbrev pub ToursDeadheadIsThere : Type 0
ToursDeadheadIsThere =
    (p : Problem) → IsValid p → (q : ℕ → ℕ) (tours : List (List Task)) → AllByRecursion (λ t. IsRequired p t.edge) (all_tasks tours) → (n : ℕ) × ToursDeadhead p q tours n

-- and only one sum of them
abbrev pub ToursDeadheadIsUnique : Type 0
ToursDeadheadIsUnique = (p : Problem) (q : ℕ → ℕ) (tours : List (List Task)) (m n : ℕ) → ToursDeadhead p q tours m → ToursDeadhead p q tours n → m ≡ n

-- a lawful plan by least paths costs what its services cost and the least deadheads of its tours
abbrev pub JoinedPlanCosts : Type 0
JoinedPlanCosts =
    (p : Problem) → IsValid p → (plan : List (List Step)) (n : ℕ) → IsLawful p plan → PlanGoesByLeastPaths p plan →
    ToursDeadhead p (price_of (costs_of p)) (plan_tours plan) n → plan_cost p plan ≡ required_cost p + n

-- no lawful plan with the same tours costs less
abbrev pub ToursCostAtLeast : Type 0
ToursCostAtLeast =
    (p : Problem) → IsValid p → (plan : List (List Step)) (n : ℕ) → IsLawful p plan →
    ToursDeadhead p (price_of (costs_of p)) (plan_tours plan) n → required_cost p + n ≤ plan_cost p plan

-- tasks that serve each required edge once are as many as these edges
abbrev pub ServedOnceAreAsMany : Type 0
ServedOnceAreAsMany = (p : Problem) (tasks : List Task) → AreServedOnce p tasks → length tasks ≡ p.required
