-- What a taken tour serves: each service once, on required edges, within the capacity.
use Rattle.std.proofs.Common.{◌≡◌, ℕ, ◌+◌, ◌≤◌, inl, inr, Bool, true, false, not, cond, ◌&&◌, ◌||◌, ◌==◌, List, [], ◌∷◌, ◌++◌, refl, sym, ap, subst, ◌∙◌, arith}
use Rattle.std.specs.Prelude.{IsTrue, nat_le}
use Rattle.std.specs.List.{count_by, AllByRecursion}
use Rattle.std.proofs.lemmas.Bool.{leb-true}
use Rattle.std.proofs.lemmas.Bool.Decides.{eqb_tells}
use Rattle.std.proofs.lemmas.List.Sums.{sum_by-cons, sum_by-append}
use Rattle.carp_base.specs.declared.edge.Task.{Task}
use Rattle.carp_base.specs.Problem.{Problem, IsRequired, edge_at}
use Rattle.plan_model.specs.declared.step.Step.{Step}
use Rattle.plan_model.specs.Plans.{serves, step_load, walk_load}
use Rattle.deadhead_paths.specs.Tours.{task_of}
use Rattle.task_tours.specs.Tours.{tour_load}
use Rattle.augment_merge.specs.Augmenting.{augmented_tasks, is_absorbed, is_among}
use Rattle.augment_merge.proofs.Absorption.{among_more, among_new, among_same, aug_absorbed, aug_passed, aug_served}

-- how often an edge is served
abbrev pub on_edge : ℕ → List Task → ℕ
on_edge e tasks = count_by (λ t. t.edge == e) tasks

abbrev pub one_of : Bool → ℕ
one_of b = cond b 1 0

pub on_more : (e : ℕ) (t : Task) (ts : List Task) → on_edge e (t ∷ ts) ≡ one_of (t.edge == e) + on_edge e ts
on_more e t ts = sum_by-cons (λ (u : Task). cond (u.edge == e) 1 0) t ts

pub on_both : (e : ℕ) (ts us : List Task) → on_edge e (ts ++ us) ≡ on_edge e ts + on_edge e us
on_both e ts us = sum_by-append (λ (u : Task). cond (u.edge == e) 1 0) ts us

pub none_among : (e : ℕ) (ts : List Task) → is_among e ts ≡ false → on_edge e ts ≡ 0
none_among e [] none = refl
none_among e (t ∷ ts) none = one (t.edge == e) refl none (none_among e ts)
  where
    one : (b : Bool) → (t.edge == e) ≡ b → (b || is_among e ts) ≡ false → (is_among e ts ≡ false → on_edge e ts ≡ 0) → on_edge e (t ∷ ts) ≡ 0
    one true is none' rest = absurd (let no : true ≡ false = none' in cc)
    one false is none' rest = on_more e t ts ∙ (let here : one_of (t.edge == e) ≡ 0 = ap one_of is in let tail = rest none' in omega arith)

pub some_among : (e : ℕ) (ts : List Task) → is_among e ts ≡ true → 1 ≤ on_edge e ts
some_among e [] some = cc
some_among e (t ∷ ts) some = one (t.edge == e) refl some (some_among e ts)
  where
    one : (b : Bool) → (t.edge == e) ≡ b → (b || is_among e ts) ≡ true → (is_among e ts ≡ true → 1 ≤ on_edge e ts) → 1 ≤ on_edge e (t ∷ ts)
    one true is some' rest = let here : one_of (t.edge == e) ≡ 1 = ap one_of is in omega (arith, on_more e t ts)
    one false is some' rest = let tail = rest some' in omega (arith, on_more e t ts)

pub among_some : (e : ℕ) (ts : List Task) → 1 ≤ on_edge e ts → is_among e ts ≡ true
among_some e ts some = one (is_among e ts) refl
  where
    one : (b : Bool) → is_among e ts ≡ b → b ≡ true
    one true is = refl
    one false is = absurd (let none = none_among e ts is in omega arith)

-- what stays among tasks
pub among_still : (e : ℕ) (ts : List Task) (t : Task) → is_among e ts ≡ true → is_among e (ts ++ t ∷ []) ≡ true
among_still e ts t is = among_more e ts t ∙ ap (λ b. b || (t.edge == e)) is

both_true : (a b : Bool) → (a && b) ≡ true → (a ≡ true) × (b ≡ true)
both_true true true is = (refl, refl)
both_true true false is = absurd (let no : false ≡ true = is in cc)
both_true false b is = absurd (let no : false ≡ true = is in cc)

not_true : (b : Bool) → not b ≡ true → b ≡ false
not_true true is = sym is
not_true false is = refl

pub record IsAbsorbable (p : Problem) (taken : List Task) (load e : ℕ) : Type 0 where
  pub required : IsRequired p e
  pub untaken : is_among e taken ≡ false
  pub fits : load + (edge_at p e).demand ≤ p.capacity

pub absorbable : (p : Problem) (taken : List Task) (load e : ℕ) → is_absorbed p taken load e ≡ true → IsAbsorbable p taken load e
absorbable p taken load e is =
    let last = both_true (nat_le 1 e && nat_le e p.required && not (is_among e taken)) (nat_le (load + (edge_at p e).demand) p.capacity) is in
    let third = both_true (nat_le 1 e && nat_le e p.required) (not (is_among e taken)) last.0 in
    let first = both_true (nat_le 1 e) (nat_le e p.required) third.0 in
    record {
      required = record { from_one = leb-true 1 e first.0; in_range = leb-true e p.required first.1 };
      untaken = not_true (is_among e taken) third.1;
      fits = leb-true (load + (edge_at p e).demand) p.capacity last.1;
    }

-- how often steps serve an edge
pub served_on : ℕ → List Step → ℕ
served_on e steps = count_by (serves e) steps

pub served_more : (e : ℕ) (s : Step) (steps : List Step) → served_on e (s ∷ steps) ≡ one_of (serves e s) + served_on e steps
unfolding served_on
served_more e s steps = sum_by-cons (λ (x : Step). cond (serves e x) 1 0) s steps

pub served_both : (e : ℕ) (xs ys : List Step) → served_on e (xs ++ ys) ≡ served_on e xs + served_on e ys
unfolding served_on
served_both e xs ys = sum_by-append (λ (x : Step). cond (serves e x) 1 0) xs ys

pub served_nothing : (e : ℕ) → served_on e [] ≡ 0
unfolding served_on
served_nothing e = refl

pub serves_is : (e : ℕ) (s : Step) → s.served ≡ true → serves e s ≡ (s.edge == e)
serves_is e s is = ap (λ b. b && (s.edge == e)) is

pub serves_none : (e : ℕ) (s : Step) → s.served ≡ false → serves e s ≡ false
serves_none e s is = ap (λ b. b && (s.edge == e)) is

module _ (p : Problem) where
  -- what happens at a step
  at_step : {R : Type 0} (taken : List Task) (load : ℕ) (s : Step) → (s.served ≡ true → R) → (s.served ≡ false → is_absorbed p taken load s.edge ≡ true → R) → (s.served ≡ false → is_absorbed p taken load s.edge ≡ false → R) → R
  at_step {R} taken load s serve absorb pass = one s.served refl
    where
      two : (b : Bool) → is_absorbed p taken load s.edge ≡ b → s.served ≡ false → R
      two true is' is = absorb is is'
      two false is' is = pass is is'

      one : (b : Bool) → s.served ≡ b → R
      one true is = serve is
      one false is = two (is_absorbed p taken load s.edge) refl is

  -- an edge that is among taken tasks is not absorbed
  pub never_twice : (e : ℕ) (steps : List Step) (taken : List Task) (load : ℕ) → is_among e taken ≡ true → on_edge e (augmented_tasks p taken load steps) ≡ served_on e steps
  unfolding served_on
  never_twice e [] taken load among = refl
  never_twice e (s ∷ steps) taken load among =
      at_step taken load s
      (λ is.
      ap (on_edge e) (aug_served p taken load s steps is) ∙ on_more e (task_of s) (augmented_tasks p (taken ++ task_of s ∷ []) load steps)
      ∙ (let here : one_of (serves e s) ≡ one_of (s.edge == e) = ap one_of (serves_is e s is) in
      omega (arith, served_more e s steps, never_twice e steps (taken ++ task_of s ∷ []) load (among_still e taken (task_of s) among))))
      (λ is absorbed.
      ap (on_edge e) (aug_absorbed p taken load s steps is absorbed) ∙ on_more e (task_of s) (augmented_tasks p (taken ++ task_of s ∷ []) (load + (edge_at p s.edge).demand) steps)
      ∙ (let here : one_of (serves e s) ≡ 0 = ap one_of (serves_none e s is) in
      let away : (s.edge == e) ≡ false = elim (eqb_tells s.edge e) [
        | inl same ↦ absurd (let no : true ≡ false = sym among ∙ ap (λ f. is_among f taken) (sym same.1) ∙ (absorbable p taken load s.edge absorbed).untaken in cc)
        | inr apart ↦ apart.0
      ] in
      let other : one_of (s.edge == e) ≡ 0 = ap one_of away in
      omega (arith, served_more e s steps, never_twice e steps (taken ++ task_of s ∷ []) (load + (edge_at p s.edge).demand) (among_still e taken (task_of s) among))))
      (λ is absorbed.
      ap (on_edge e) (aug_passed p taken load s steps is absorbed)
      ∙ (let here : one_of (serves e s) ≡ 0 = ap one_of (serves_none e s is) in omega (arith, served_more e s steps, never_twice e steps taken load among)))

  -- and any other once at most
  pub at_most_once : (e : ℕ) (steps : List Step) (taken : List Task) (load : ℕ) → is_among e taken ≡ false → served_on e steps ≡ 0 → on_edge e (augmented_tasks p taken load steps) ≤ 1
  unfolding served_on
  at_most_once e [] taken load among none = omega arith
  at_most_once e (s ∷ steps) taken load among none =
      at_step taken load s
      (λ is. elim (eqb_tells s.edge e) [
        | inl same ↦ absurd (let here : one_of (serves e s) ≡ 1 = ap one_of (serves_is e s is ∙ same.0) in omega (arith, served_more e s steps))
        | inr apart ↦
            let here : one_of (s.edge == e) ≡ 0 = ap one_of apart.0 in
            omega (
              arith,
              ap (on_edge e) (aug_served p taken load s steps is),
              on_more e (task_of s) (augmented_tasks p (taken ++ task_of s ∷ []) load steps),
              at_most_once e steps (taken ++ task_of s ∷ []) load (among_same e taken (task_of s) apart.1 ∙ among) (omega (arith, served_more e s steps)),
            )
      ])
      (λ is absorbed. elim (eqb_tells s.edge e) [
        | inl same ↦
            let here : one_of (s.edge == e) ≡ 1 = ap one_of same.0 in
            omega (
              arith,
              ap (on_edge e) (aug_absorbed p taken load s steps is absorbed),
              on_more e (task_of s) (augmented_tasks p (taken ++ task_of s ∷ []) (load + (edge_at p s.edge).demand) steps),
              never_twice e steps (taken ++ task_of s ∷ []) (load + (edge_at p s.edge).demand) (among_new e taken (task_of s) same.1),
              served_more e s steps,
            )
        | inr apart ↦
            let here : one_of (s.edge == e) ≡ 0 = ap one_of apart.0 in
            omega (
              arith,
              ap (on_edge e) (aug_absorbed p taken load s steps is absorbed),
              on_more e (task_of s) (augmented_tasks p (taken ++ task_of s ∷ []) (load + (edge_at p s.edge).demand) steps),
              at_most_once e steps (taken ++ task_of s ∷ []) (load + (edge_at p s.edge).demand) (among_same e taken (task_of s) apart.1 ∙ among) (omega (arith, served_more e s steps)),
            )
      ])
      (λ is absorbed. omega (arith, ap (on_edge e) (aug_passed p taken load s steps is absorbed), at_most_once e steps taken load among (omega (arith, served_more e s steps))))

  pub absorbed_required : (steps : List Step) (taken : List Task) (load : ℕ) → AllByRecursion (λ s. IsTrue s.served → IsRequired p s.edge) steps → AllByRecursion (λ t. IsRequired p t.edge) (augmented_tasks p taken load steps)
  absorbed_required [] taken load own = tt
  absorbed_required (s ∷ steps) taken load own =
      at_step taken load s
      (λ is. subst (AllByRecursion (λ t. IsRequired p t.edge)) (sym (aug_served p taken load s steps is)) (own.0 is, absorbed_required steps (taken ++ task_of s ∷ []) load own.1))
      (λ is absorbed. subst (AllByRecursion (λ t. IsRequired p t.edge)) (sym (aug_absorbed p taken load s steps is absorbed))
      ((absorbable p taken load s.edge absorbed).required, absorbed_required steps (taken ++ task_of s ∷ []) (load + (edge_at p s.edge).demand) own.1))
      (λ is absorbed. subst (AllByRecursion (λ t. IsRequired p t.edge)) (sym (aug_passed p taken load s steps is absorbed)) (absorbed_required steps taken load own.1))

  load_more : (t : Task) (ts : List Task) → tour_load p (t ∷ ts) ≡ (edge_at p t.edge).demand + tour_load p ts
  load_more t ts = sum_by-cons (λ (u : Task). (edge_at p u.edge).demand) t ts

  walk_load_more : (s : Step) (steps : List Step) → walk_load p (s ∷ steps) ≡ step_load p s + walk_load p steps
  walk_load_more s steps = sum_by-cons (step_load p) s steps

  pub absorbed_load : (steps : List Step) (taken : List Task) (load : ℕ) → load ≤ p.capacity → load + tour_load p (augmented_tasks p taken load steps) ≤ p.capacity + walk_load p steps
  absorbed_load [] taken load fits = omega arith
  absorbed_load (s ∷ steps) taken load fits =
      at_step taken load s
      (λ is.
      let here : step_load p s ≡ (edge_at p s.edge).demand = ap (λ b. cond b (edge_at p s.edge).demand 0) is in
      omega (arith, ap (tour_load p) (aug_served p taken load s steps is), load_more (task_of s) (augmented_tasks p (taken ++ task_of s ∷ []) load steps), walk_load_more s steps, absorbed_load steps (taken ++ task_of s ∷ []) load fits))
      (λ is absorbed.
      let here : step_load p s ≡ 0 = ap (λ b. cond b (edge_at p s.edge).demand 0) is in
      omega (
        arith,
        ap (tour_load p) (aug_absorbed p taken load s steps is absorbed),
        load_more (task_of s) (augmented_tasks p (taken ++ task_of s ∷ []) (load + (edge_at p s.edge).demand) steps),
        walk_load_more s steps,
        absorbed_load steps (taken ++ task_of s ∷ []) (load + (edge_at p s.edge).demand) (absorbable p taken load s.edge absorbed).fits,
      ))
      (λ is absorbed.
      let here : step_load p s ≡ 0 = ap (λ b. cond b (edge_at p s.edge).demand 0) is in
      omega (arith, ap (tour_load p) (aug_passed p taken load s steps is absorbed), walk_load_more s steps, absorbed_load steps taken load fits))
