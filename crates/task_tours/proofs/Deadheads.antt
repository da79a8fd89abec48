-- Least deadheads of tours, and what plans cost.
use Rattle.std.proofs.Common.{◌≡◌, ℕ, ◌+◌, ◌≤◌, Bool, true, false, cond, List, [], ◌∷◌, map, refl, sym, ◌∙◌, arith}
use Rattle.std.specs.Prelude.{if◌then◌else◌}
use Rattle.std.specs.List.{sum_by, AllByRecursion}
use Rattle.std.proofs.lemmas.List.Sums.{sum_by-cons, sum_by-append}
use Rattle.carp_base.specs.declared.edge.Edge.{Edge}
use Rattle.carp_base.specs.declared.edge.Task.{Task}
use Rattle.carp_base.specs.Problem.{Problem, IsValid, IsRequired, edge_at, tail_of, head_of, required_cost}
use Rattle.plan_model.specs.declared.step.Step.{Step}
use Rattle.plan_model.specs.Laws.{ServedOnceByEdge}
use Rattle.plan_model.specs.Plans.{Leads, IsLawfulWalk, IsLawful, step_cost, walk_cost, plan_cost, steps_of}
use Rattle.deadhead_paths.specs.Laws.{LeastDeadheadIsThere, LeastDeadheadIsLeast, LeastPathsCost}
use Rattle.deadhead_paths.specs.Prices.{IsLeastPrice, price_of, costs_of}
use Rattle.deadhead_paths.specs.Tidy.{served_steps}
use Rattle.deadhead_paths.specs.Tours.{LeastDeadhead, task_of, dead_price}
use Rattle.task_tours.specs.Tours.{plan_tours, all_tasks, PlanGoesByLeastPaths, ToursDeadhead}
use Rattle.task_tours.proofs.Linking.{cost_price}
use Rattle.task_tours.proofs.Plans.{all-parts, services_sum}

pub tours_there : LeastDeadheadIsThere → (p : Problem) → IsValid p → (q : ℕ → ℕ) (tours : List (List Task)) → AllByRecursion (λ t. IsRequired p t.edge) (all_tasks tours) → (n : ℕ) × ToursDeadhead p q tours n
tours_there there p valid q [] required = (0, refl)
tours_there there p valid q (tour ∷ tours) required =
    let parts = all-parts (λ t. IsRequired p t.edge) tour (all_tasks tours) required in
    let one = there p valid q tour parts.0 in
    let rest = tours_there there p valid q tours parts.1 in
    (one.0 + rest.0, (one.0, rest.0, one.1, rest.1, refl))

same_least : (p : Problem) (q : ℕ → ℕ) (a b m n : ℕ) → IsLeastPrice p q a b m → IsLeastPrice p q a b n → m ≡ n
same_least p q a b m n first second = omega (arith, first.least n second.steps second.reached, second.least m first.steps first.reached)

tour_unique : (p : Problem) (q : ℕ → ℕ) (a : ℕ) (tour : List Task) (b m n : ℕ) → LeastDeadhead p q a tour b m → LeastDeadhead p q a tour b n → m ≡ n
tour_unique p q a [] b m n first second = same_least p q a b m n first second
tour_unique p q a (t ∷ tour) b m n first second =
    omega (
      arith,
      same_least p q a (tail_of (edge_at p t.edge) t.forward) first.0 second.0 first.2 second.2,
      tour_unique p q (head_of (edge_at p t.edge) t.forward) tour b first.1 second.1 first.3 second.3,
      first.4,
      second.4,
    )

pub tours_unique : (p : Problem) (q : ℕ → ℕ) (tours : List (List Task)) (m n : ℕ) → ToursDeadhead p q tours m → ToursDeadhead p q tours n → m ≡ n
tours_unique p q [] m n first second = omega (arith, first, second)
tours_unique p q (tour ∷ tours) m n first second =
    omega (arith, tour_unique p q p.depot tour p.depot first.0 second.0 first.2 second.2, tours_unique p q tours first.1 second.1 first.3 second.3, first.4, second.4)

services_serve : (walk : List Step) → AllByRecursion (λ s. s.served ≡ true) (served_steps walk)
services_serve [] = tt
services_serve (s ∷ walk) = one s.served refl (services_serve walk)
  where
    one : (b : Bool) → s.served ≡ b → AllByRecursion (λ x. x.served ≡ true) (served_steps walk) → AllByRecursion (λ x. x.served ≡ true) (cond b (s ∷ served_steps walk) (served_steps walk))
    one true is rest = (is, rest)
    one false is rest = rest

module _ (p : Problem) where
  -- what a step costs as a service
  service_of_step : Step → ℕ
  service_of_step s = if s.served then (edge_at p s.edge).service else 0

  services_cost : (services : List Step) → sum_by (λ s. (edge_at p s.edge).service) services ≡ sum_by (λ t. (edge_at p t.edge).service) (map task_of services)
  services_cost [] = refl
  services_cost (s ∷ services) =
      omega (arith, sum_by-cons (λ (x : Step). (edge_at p x.edge).service) s services, sum_by-cons (λ (t : Task). (edge_at p t.edge).service) (task_of s) (map task_of services), services_cost services)

  served_cost : (walk : List Step) → sum_by service_of_step walk ≡ sum_by (λ s. (edge_at p s.edge).service) (served_steps walk)
  unfolding service_of_step
  served_cost walk =
      services_sum service_of_step (λ t. (edge_at p t.edge).service) (λ s idle. rw idle refl) (λ s busy. rw busy refl) walk ∙ sym (services_cost (served_steps walk))

  -- a walk costs its services and the prices of its other steps
  walk_parts : (a b : ℕ) (walk : List Step) → Leads p a walk b → walk_cost p walk ≡ sum_by service_of_step walk + dead_price (price_of (costs_of p)) walk
  unfolding service_of_step
  walk_parts a b [] leads = refl
  walk_parts a b (s ∷ walk) leads =
      omega (
        arith,
        sum_by-cons (step_cost p) s walk,
        sum_by-cons service_of_step s walk,
        sum_by-cons (λ x. if x.served then 0 else price_of (costs_of p) x.edge) s walk,
        one s.served refl,
        walk_parts (head_of (edge_at p s.edge) s.forward) b walk leads.2,
      )
    where
      one : (served : Bool) → s.served ≡ served → step_cost p s ≡ service_of_step s + (if s.served then 0 else price_of (costs_of p) s.edge)
      one true is = rw is omega arith
      one false is = rw is omega (arith, cost_price p s.edge leads.0)

  module _ (costs : LeastPathsCost) where
    plan_parts : (plan : List (List Step)) (n : ℕ) → PlanGoesByLeastPaths p plan → ToursDeadhead p (price_of (costs_of p)) (plan_tours plan) n → plan_cost p plan ≡ sum_by service_of_step (steps_of plan) + n
    plan_parts [] n paths least = omega (arith, least)
    plan_parts (walk ∷ plan) n paths least =
        omega (
          arith,
          sum_by-append (step_cost p) walk (steps_of plan),
          sum_by-append service_of_step walk (steps_of plan),
          costs p p.depot p.depot (served_steps walk) walk least.0 paths.0 (services_serve walk) least.2,
          served_cost walk,
          plan_parts plan least.1 paths.1 least.3,
          least.4,
        )

  module _ (above : LeastDeadheadIsLeast) where
    plan_above : (plan : List (List Step)) (n : ℕ) → AllByRecursion (IsLawfulWalk p) plan → ToursDeadhead p (price_of (costs_of p)) (plan_tours plan) n → sum_by service_of_step (steps_of plan) + n ≤ plan_cost p plan
    plan_above [] n walks least = omega (arith, least)
    plan_above (walk ∷ plan) n walks least =
        omega (
          arith,
          sum_by-append (step_cost p) walk (steps_of plan),
          sum_by-append service_of_step walk (steps_of plan),
          walk_parts p.depot p.depot walk walks.0.leads,
          above p (price_of (costs_of p)) p.depot p.depot walk least.0 walks.0.leads least.2,
          plan_above plan least.1 walks.1 least.3,
          least.4,
        )

  module _ (once : ServedOnceByEdge) (valid : IsValid p) where
    all_served : (plan : List (List Step)) → IsLawful p plan → sum_by service_of_step (steps_of plan) ≡ required_cost p
    unfolding service_of_step
    all_served plan lawful = once p plan (λ (x : Edge). x.service) valid lawful

    pub joined_cost : LeastPathsCost → (plan : List (List Step)) (n : ℕ) → IsLawful p plan → PlanGoesByLeastPaths p plan → ToursDeadhead p (price_of (costs_of p)) (plan_tours plan) n → plan_cost p plan ≡ required_cost p + n
    joined_cost costs plan n lawful paths least = omega (arith, plan_parts costs plan n paths least, all_served plan lawful)

    pub cost_above : LeastDeadheadIsLeast → (plan : List (List Step)) (n : ℕ) → IsLawful p plan → ToursDeadhead p (price_of (costs_of p)) (plan_tours plan) n → required_cost p + n ≤ plan_cost p plan
    cost_above above plan n lawful least = omega (arith, plan_above above plan n lawful.walks least, all_served plan lawful)
