-- Plans whose tours are lawful are lawful, and the other way round.
use Rattle.std.proofs.Common.{◌≡◌, ℕ, ◌+◌, ◌≤◌, Bool, true, false, cond, ◌==◌, List, [], ◌∷◌, ◌++◌, map, refl, sym, ◌∙◌, arith}
use Rattle.std.specs.Prelude.{IsTrue}
use Rattle.std.specs.List.{sum_by, count_by, AllByRecursion}
use Rattle.std.proofs.lemmas.List.Sums.{sum_by-cons, sum_by-append}
use Rattle.carp_base.specs.declared.edge.Task.{Task}
use Rattle.carp_base.specs.Problem.{Problem, IsValid, IsRequired, IsEdgeNumber, edge_at}
use Rattle.plan_model.specs.declared.step.Step.{Step}
use Rattle.plan_model.specs.Plans.{IsLawfulWalk, IsLawful, step_load, serves, services_of, steps_of}
use Rattle.deadhead_paths.specs.Tidy.{served_steps}
use Rattle.deadhead_paths.specs.Tours.{task_of, tasks_of}
use Rattle.task_tours.specs.Tours.{plan_tours, all_tasks, tour_load, PlanGoesByLeastPaths, AreLawfulTours}
use Rattle.task_tours.proofs.Going.{goes_leads}
use Rattle.task_tours.proofs.Linking.{required_number}

-- what is summed over the services of a walk is summed over its tasks
pub services_sum : (f : Step → ℕ) (g : Task → ℕ) → ((s : Step) → s.served ≡ false → f s ≡ 0) → ((s : Step) → s.served ≡ true → f s ≡ g (task_of s)) → (walk : List Step) → sum_by f walk ≡ sum_by g (tasks_of walk)
services_sum f g idle busy [] = refl
services_sum f g idle busy (s ∷ walk) = sum_by-cons f s walk ∙ one s.served refl (services_sum f g idle busy walk)
  where
    one : (b : Bool) → s.served ≡ b → sum_by f walk ≡ sum_by g (tasks_of walk) → f s + sum_by f walk ≡ sum_by g (map task_of (cond b (s ∷ served_steps walk) (served_steps walk)))
    one true is rest = omega (arith, rest, busy s is, sum_by-cons g (task_of s) (tasks_of walk))
    one false is rest = omega (arith, rest, idle s is)

-- what holds for the tasks of a walk holds for its services
pub services_all : (P : ℕ → Type 0) (walk : List Step) → AllByRecursion (λ t. P t.edge) (tasks_of walk) → AllByRecursion (λ s. IsTrue s.served → P s.edge) walk × AllByRecursion (λ s. P s.edge) (served_steps walk)
services_all P [] all = (tt, tt)
services_all P (s ∷ walk) all = one s.served (services_all P walk) all
  where
    one : (b : Bool) → (AllByRecursion (λ t. P t.edge) (tasks_of walk) → AllByRecursion (λ x. IsTrue x.served → P x.edge) walk × AllByRecursion (λ x. P x.edge) (served_steps walk)) →
        AllByRecursion (λ t. P t.edge) (map task_of (cond b (s ∷ served_steps walk) (served_steps walk))) →
        ((IsTrue b → P s.edge) × AllByRecursion (λ x. IsTrue x.served → P x.edge) walk) × AllByRecursion (λ x. P x.edge) (cond b (s ∷ served_steps walk) (served_steps walk))
    one true onward all = let rest = onward all.1 in (((λ is. all.0), rest.0), (all.0, rest.1))
    one false onward all = let rest = onward all in (((λ is. absurd (let both : true ≡ false = sym is in cc)), rest.0), rest.1)

-- and the other way round
tasks_all : (P : ℕ → Type 0) (walk : List Step) → AllByRecursion (λ s. IsTrue s.served → P s.edge) walk → AllByRecursion (λ t. P t.edge) (tasks_of walk)
tasks_all P [] all = tt
tasks_all P (s ∷ walk) all = one s.served refl (tasks_all P walk all.1)
  where
    one : (b : Bool) → s.served ≡ b → AllByRecursion (λ t. P t.edge) (tasks_of walk) → AllByRecursion (λ t. P t.edge) (map task_of (cond b (s ∷ served_steps walk) (served_steps walk)))
    one true is rest = (all.0 is, rest)
    one false is rest = rest

pub all-append : {X : Type 0} (P : X → Type 0) (xs ys : List X) → AllByRecursion P xs → AllByRecursion P ys → AllByRecursion P (xs ++ ys)
all-append P [] ys first second = second
all-append P (x ∷ xs) ys first second = (first.0, all-append P xs ys first.1 second)

pub all-parts : {X : Type 0} (P : X → Type 0) (xs ys : List X) → AllByRecursion P (xs ++ ys) → AllByRecursion P xs × AllByRecursion P ys
all-parts P [] ys all = (tt, all)
all-parts P (x ∷ xs) ys all = let rest = all-parts P xs ys all.1 in ((all.0, rest.0), rest.1)

module _ (p : Problem) where
  load_is : (walk : List Step) → sum_by (step_load p) walk ≡ tour_load p (tasks_of walk)
  load_is walk = services_sum (step_load p) (λ t. (edge_at p t.edge).demand) (λ s idle. rw idle refl) (λ s busy. rw busy refl) walk

  -- how often an edge is served
  count_is : (e : ℕ) (plan : List (List Step)) → services_of e plan ≡ count_by (λ t. t.edge == e) (all_tasks (plan_tours plan))
  count_is e [] = refl
  count_is e (walk ∷ plan) =
      let one : Step → ℕ = λ s. cond (serves e s) 1 0 in
      let on : Task → ℕ = λ t. cond (t.edge == e) 1 0 in
      omega (
        arith,
        sum_by-append one walk (steps_of plan),
        sum_by-append on (tasks_of walk) (all_tasks (plan_tours plan)),
        services_sum one on (λ s idle. rw idle refl) (λ s busy. rw busy refl) walk,
        count_is e plan,
      )

  numbered : IsValid p → (ts : List Task) → AllByRecursion (λ t. IsRequired p t.edge) ts → AllByRecursion (λ t. IsEdgeNumber p t.edge) ts
  numbered valid [] all = tt
  numbered valid (t ∷ ts) all = (required_number p valid t.edge all.0, numbered valid ts all.1)

  lawful_walks : IsValid p → (plan : List (List Step)) → PlanGoesByLeastPaths p plan → AllByRecursion (λ t. IsRequired p t.edge) (all_tasks (plan_tours plan)) →
      AllByRecursion (λ tour. tour_load p tour ≤ p.capacity) (plan_tours plan) → AllByRecursion (IsLawfulWalk p) plan
  lawful_walks valid [] paths required loads = tt
  lawful_walks valid (walk ∷ plan) paths required loads =
      let parts = all-parts (λ t. IsRequired p t.edge) (tasks_of walk) (all_tasks (plan_tours plan)) required in
      let numbers = services_all (IsEdgeNumber p) walk (numbered valid (tasks_of walk) parts.0) in (
        record {
          leads = goes_leads p (served_steps walk) walk p.depot p.depot numbers.1 paths.0;
          serves_required = (services_all (IsRequired p) walk parts.0).0;
          load = omega (arith, loads.0, load_is walk);
        },
        lawful_walks valid plan paths.1 parts.1 loads.1,
      )

  pub tours_lawful : IsValid p → (plan : List (List Step)) → PlanGoesByLeastPaths p plan → AreLawfulTours p (plan_tours plan) → IsLawful p plan
  tours_lawful valid plan paths tours = record {
    walks = lawful_walks valid plan paths tours.served.required tours.loads;
    once = λ e required. count_is e plan ∙ tours.served.once e required;
  }

  tours_required : (plan : List (List Step)) → AllByRecursion (IsLawfulWalk p) plan → AllByRecursion (λ t. IsRequired p t.edge) (all_tasks (plan_tours plan))
  tours_required [] walks = tt
  tours_required (walk ∷ plan) walks =
      all-append (λ t. IsRequired p t.edge) (tasks_of walk) (all_tasks (plan_tours plan)) (tasks_all (IsRequired p) walk walks.0.serves_required) (tours_required plan walks.1)

  tours_loads : (plan : List (List Step)) → AllByRecursion (IsLawfulWalk p) plan → AllByRecursion (λ tour. tour_load p tour ≤ p.capacity) (plan_tours plan)
  tours_loads [] walks = tt
  tours_loads (walk ∷ plan) walks = (omega (arith, walks.0.load, load_is walk), tours_loads plan walks.1)

  pub lawful_tours : (plan : List (List Step)) → IsLawful p plan → AreLawfulTours p (plan_tours plan)
  lawful_tours plan lawful = record {
    served = record {
      required = tours_required plan lawful.walks;
      once = λ e required. sym (count_is e plan) ∙ lawful.once e required;
    };
    loads = tours_loads plan lawful.walks;
  }
