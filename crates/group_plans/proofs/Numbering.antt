-- The walks of a plan that serve, numbered in their order, and for each edge the number of the first one that serves it.
use Rattle.std.proofs.Common.{◌≡◌, ℕ, ◌+◌, ◌<◌, ◌≤◌, ◌==◌, Bool, true, false, cond, ◌||◌, List, [], ◌∷◌, refl, ap, sym, ◌∙◌, subst, inl, inr, arith}
use Rattle.std.specs.Prelude.{IsTrue}
use Rattle.std.specs.List.{sum_by, count_by, list_any, AllByRecursion}
use Rattle.std.proofs.lemmas.Bool.{cases_eq, cases_lt, ne_eqb, eq-eqb}
use Rattle.std.proofs.lemmas.List.Sums.{sum_by-append, sum_by-cons, sum_by-le-sum_by}
use Rattle.carp_base.specs.Problem.{Problem, IsRequired, edge_at}
use Rattle.plan_model.specs.declared.step.Step.{Step}
use Rattle.plan_model.specs.Plans.{IsLawfulWalk, serves, services_of, step_load, steps_of, walk_load}
use Rattle.group_plans.specs.Groups.{serving_walks}
use Rattle.group_plans.proofs.GroupTasks.{given, one_if}
use Rattle.group_plans.proofs.GroupTours.{busy_step, idle_step}

-- one where the walk serves
abbrev pub one_serving : List Step → ℕ
one_serving walk = one_if (list_any (λ s. s.served) walk)

abbrev pub count_on : ℕ → List Step → ℕ
count_on e walk = count_by (serves e) walk

-- each edge that a walk serves has the number of that walk, where k walks that serve stand before the plan
abbrev pub Numbered : (ℕ → ℕ) → List (List Step) → ℕ → Type 0
Numbered f [] k = Unit {0}
Numbered f (walk ∷ plan) k = ((e : ℕ) → 1 ≤ count_on e walk → f e ≡ k + 1) × Numbered f plan (k + one_serving walk)

abbrev pub first_of_plan : List (List Step) → ℕ → ℕ → ℕ
first_of_plan [] k e = 0
first_of_plan (walk ∷ plan) k e = cond (count_on e walk == 0) (first_of_plan plan (k + one_serving walk) e) (k + 1)

serving_cons : (walk : List Step) (plan : List (List Step)) → serving_walks (walk ∷ plan) ≡ one_serving walk + serving_walks plan
serving_cons walk plan = sum_by-cons one_serving walk plan

services_cons : (e : ℕ) (walk : List Step) (plan : List (List Step)) → services_of e (walk ∷ plan) ≡ count_on e walk + services_of e plan
services_cons e walk plan = sum_by-append (λ s. cond (serves e s) 1 0) walk (steps_of plan)

count_cons : (e : ℕ) (s : Step) (walk : List Step) → count_on e (s ∷ walk) ≡ cond (serves e s) 1 0 + count_on e walk
count_cons e s walk = sum_by-cons (λ x. cond (serves e x) 1 0) s walk

-- a step that serves is a service of its edge
serves_own : (s : Step) → s.served ≡ true → one_if (serves s.edge s) ≡ 1
serves_own s is = busy_step s.edge s is ∙ ap one_if (eq-eqb s.edge s.edge refl)

-- other numbers that agree on what is served do as well
numbered_alike : (f g : ℕ → ℕ) (plan : List (List Step)) (k : ℕ) → ((e : ℕ) → 1 ≤ services_of e plan → g e ≡ f e) → Numbered f plan k → Numbered g plan k
numbered_alike f g [] k alike numbered = tt
numbered_alike f g (walk ∷ plan) k alike numbered = (
  (λ e serves. alike e (omega (arith, serves, services_cons e walk plan)) ∙ numbered.0 e serves),
  numbered_alike f g plan (k + one_serving walk) (λ e serves. alike e (omega (arith, serves, services_cons e walk plan))) numbered.1,
)

-- where no edge is served twice, the first walks are such numbers
pub first_numbered : (plan : List (List Step)) (k : ℕ) → ((e : ℕ) → services_of e plan ≤ 1) → Numbered (first_of_plan plan k) plan k
first_numbered [] k once = tt
first_numbered (walk ∷ plan) k once = (
  (λ e serves. ap (λ b. cond b (first_of_plan plan (k + one_serving walk) e) (k + 1)) (ne_eqb (count_on e walk) 0 (λ none. omega (arith, serves, none)))),
  numbered_alike (first_of_plan plan (k + one_serving walk)) (first_of_plan (walk ∷ plan) k) plan (k + one_serving walk)
      (λ e serves. ap (λ b. cond b (first_of_plan plan (k + one_serving walk) e) (k + 1)) (eq-eqb (count_on e walk) 0 (omega (arith, serves, once e, services_cons e walk plan))))
      (first_numbered plan (k + one_serving walk) (λ e. omega (arith, once e, services_cons e walk plan))),
)

-- a walk that serves an edge is one that serves
serving_some : (e : ℕ) (walk : List Step) → 1 ≤ count_on e walk → one_serving walk ≡ 1
serving_some e [] some = absurd (omega (arith, some))
serving_some e (s ∷ walk) some = one s.served refl (serving_some e walk)
  where
    one : (b : Bool) → s.served ≡ b → (1 ≤ count_on e walk → one_serving walk ≡ 1) → one_if (b || list_any (λ x. x.served) walk) ≡ 1
    one true is onward = refl
    one false is onward = onward (omega (arith, some, count_cons e s walk, idle_step e s is))

-- the number of what is served is that of one of the walks
pub number_within : (f : ℕ → ℕ) (plan : List (List Step)) (k e : ℕ) → Numbered f plan k → 1 ≤ services_of e plan → (k < f e) × (f e ≤ k + serving_walks plan)
number_within f [] k e numbered some = absurd (omega (arith, some))
number_within f (walk ∷ plan) k e numbered some = elim (cases_lt 0 (count_on e walk)) [
  | inl here ↦
      let is : f e ≡ k + 1 = numbered.0 e (omega (arith, here)) in
      (omega (arith, is), omega (arith, is, serving_some e walk (omega (arith, here)), serving_cons walk plan))
  | inr later ↦
      let rest = number_within f plan (k + one_serving walk) e numbered.1 (omega (arith, some, later, services_cons e walk plan)) in
      (omega (arith, rest.0), omega (arith, rest.1, serving_cons walk plan))
]

-- a walk that serves some edge
serves_one : (p : Problem) (walk : List Step) → AllByRecursion (λ s. IsTrue s.served → IsRequired p s.edge) walk → one_serving walk ≡ 1 → (e : ℕ) × IsRequired p e × (1 ≤ count_on e walk)
serves_one p [] required some = absurd (omega (arith, some))
serves_one p (s ∷ walk) required some = one s.served refl (serves_one p walk required.1) required.0 some
  where
    one : (b : Bool) → s.served ≡ b → (one_serving walk ≡ 1 → (e : ℕ) × IsRequired p e × (1 ≤ count_on e walk)) → (IsTrue s.served → IsRequired p s.edge) →
        one_if (b || list_any (λ x. x.served) walk) ≡ 1 → (e : ℕ) × IsRequired p e × (1 ≤ count_on e (s ∷ walk))
    one true is onward own some = (s.edge, own is, omega (arith, serves_own s is, count_cons s.edge s walk))
    one false is onward own some = let rest = onward some in (rest.0, rest.1, omega (arith, rest.2, count_cons rest.0 s walk))

-- only required edges are served
walk_required : (p : Problem) (walk : List Step) → AllByRecursion (λ s. IsTrue s.served → IsRequired p s.edge) walk → (e : ℕ) → 1 ≤ count_on e walk → IsRequired p e
walk_required p [] required e some = absurd (omega (arith, some))
walk_required p (s ∷ walk) required e some = one s.served refl (walk_required p walk required.1 e) required.0 (omega (arith, some, count_cons e s walk))
  where
    one : (b : Bool) → s.served ≡ b → (1 ≤ count_on e walk → IsRequired p e) → (IsTrue s.served → IsRequired p s.edge) → 1 ≤ cond (serves e s) 1 0 + count_on e walk → IsRequired p e
    one true is onward own some = elim (cases_eq s.edge e) [
      | inl same ↦ subst (IsRequired p) same (own is)
      | inr differs ↦ onward (omega (arith, some, busy_step e s is, ap one_if (ne_eqb s.edge e differs)))
    ]
    one false is onward own some = onward (omega (arith, some, idle_step e s is))

pub served_required : (p : Problem) (plan : List (List Step)) → AllByRecursion (IsLawfulWalk p) plan → (e : ℕ) → 1 ≤ services_of e plan → IsRequired p e
served_required p [] lawful e some = absurd (omega (arith, some))
served_required p (walk ∷ plan) lawful e some = elim (cases_lt 0 (count_on e walk)) [
  | inl here ↦ walk_required p walk lawful.0.serves_required e (omega (arith, here))
  | inr later ↦ served_required p plan lawful.1 e (omega (arith, some, later, services_cons e walk plan))
]

-- each number is that of a required edge
pub none_idle : (p : Problem) (f : ℕ → ℕ) (plan : List (List Step)) (k g : ℕ) → AllByRecursion (IsLawfulWalk p) plan → Numbered f plan k → k < g → g ≤ k + serving_walks plan →
    (e : ℕ) × IsRequired p e × (f e ≡ g)
none_idle p f [] k g lawful numbered low high = absurd (omega (arith, low, high))
none_idle p f (walk ∷ plan) k g lawful numbered low high = elim (cases_lt (k + one_serving walk) g) [
  | inl later ↦ none_idle p f plan (k + one_serving walk) g lawful.1 numbered.1 later (omega (arith, high, serving_cons walk plan))
  | inr here ↦
      let served = serves_one p walk lawful.0.serves_required (at_most_one (list_any (λ s. s.served) walk) (omega (arith, low, here))) in
      (served.0, served.1, omega (arith, numbered.0 served.0 served.2, low, here, at_most_one (list_any (λ s. s.served) walk) (omega (arith, low, here))))
]
  where
    at_most_one : (b : Bool) → 1 ≤ one_if b → one_if b ≡ 1
    at_most_one true some = refl
    at_most_one false some = absurd (omega (arith, some))

module _ (p : Problem) (f : ℕ → ℕ) (g : ℕ) where
  -- the demand of an edge, where it has the number
  abbrev pub wanted : ℕ → ℕ
  wanted e = cond (f e == g) (edge_at p e).demand 0

  abbrev pub wanted_on : Step → ℕ
  wanted_on s = cond s.served (wanted s.edge) 0

  part_of : (b c : Bool) (n : ℕ) → cond b (cond c n 0) 0 ≤ cond b n 0
  part_of true true n = omega arith
  part_of true false n = omega arith
  part_of false c n = omega arith

  walk_part : (walk : List Step) → sum_by wanted_on walk ≤ walk_load p walk
  walk_part walk = sum_by-le-sum_by wanted_on (step_load p) walk (λ s. part_of s.served (f s.edge == g) (edge_at p s.edge).demand)

  -- a walk without such an edge has none of it
  walk_without : (walk : List Step) → ((e : ℕ) → 1 ≤ count_on e walk → f e ≡ g → ⊥) → sum_by wanted_on walk ≡ 0
  walk_without [] other = refl
  walk_without (s ∷ walk) other = sum_by-cons wanted_on s walk ∙ one s.served refl (walk_without walk (λ e some. other e (omega (arith, some, count_cons e s walk))))
    where
      one : (b : Bool) → s.served ≡ b → sum_by wanted_on walk ≡ 0 → cond b (wanted s.edge) 0 + sum_by wanted_on walk ≡ 0
      one true is rest = omega (arith, rest, ap (λ b. given b (edge_at p s.edge).demand) (ne_eqb (f s.edge) g (other s.edge (omega (arith, serves_own s is, count_cons s.edge s walk)))))
      one false is rest = omega (arith, rest)

  sum_cons : (walk : List Step) (plan : List (List Step)) → sum_by wanted_on (steps_of (walk ∷ plan)) ≡ sum_by wanted_on walk + sum_by wanted_on (steps_of plan)
  sum_cons walk plan = sum_by-append wanted_on walk (steps_of plan)

  -- nor has a plan whose numbers are all greater
  plan_without : (plan : List (List Step)) (k : ℕ) → Numbered f plan k → g ≤ k → sum_by wanted_on (steps_of plan) ≡ 0
  plan_without [] k numbered beyond = refl
  plan_without (walk ∷ plan) k numbered beyond = omega (
    arith,
    sum_cons walk plan,
    walk_without walk (λ e some is. omega (arith, numbered.0 e some, is, beyond)),
    plan_without plan (k + one_serving walk) numbered.1 (omega (arith, beyond)),
  )

  -- what the edges of one number demand fits a vehicle
  pub plan_fits : (plan : List (List Step)) (k : ℕ) → AllByRecursion (IsLawfulWalk p) plan → Numbered f plan k → sum_by wanted_on (steps_of plan) ≤ p.capacity
  plan_fits [] k lawful numbered = omega arith
  plan_fits (walk ∷ plan) k lawful numbered = elim (cases_eq g (k + 1)) [
    | inr differs ↦ omega (
      arith,
      sum_cons walk plan,
      walk_without walk (λ e some is. differs (sym is ∙ numbered.0 e some)),
      plan_fits plan (k + one_serving walk) lawful.1 numbered.1,
    )
    | inl is ↦ elim (cases_lt 0 (one_serving walk)) [
      | inl serves ↦ omega (
        arith,
        sum_cons walk plan,
        walk_part walk,
        lawful.0.load,
        plan_without plan (k + one_serving walk) numbered.1 (omega (arith, is, serves)),
      )
      | inr idle ↦ omega (
        arith,
        sum_cons walk plan,
        walk_without walk (λ e some _. omega (arith, idle, serving_some e walk some)),
        plan_fits plan (k + one_serving walk) lawful.1 numbered.1,
      )
    ]
  ]
