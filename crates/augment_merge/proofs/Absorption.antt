-- Flags of services, and what a taken tour absorbs.
use Rattle.std.proofs.Common.{◌≡◌, ◌≢◌, ℕ, ◌+◌, ◌-◌, ◌<◌, ◌≤◌, inl, inr, add-one, drop-cons, append-nil, Bool, true, false, not, cond, ◌||◌, ◌==◌, List, [], ◌∷◌, ◌++◌, length, get_or, set, drop, refl, sym, ap, subst, ◌∙◌, arith, append_assoc}
use Rattle.std.specs.Prelude.{IsTrue}
use Rattle.std.specs.List.{AllByRecursion}
use Rattle.std.proofs.lemmas.Bool.{cases_eq, eq-eqb}
use Rattle.std.proofs.lemmas.List.{get_or-set_same, get_or-set_other, length-set, drop_all}
use Rattle.std.proofs.lemmas.List.Elements.{All-from_recursion}
use Rattle.std.proofs.lemmas.List.Folds.{list_any-append}
use Rattle.std.proofs.lemmas.List.Sums.{sum_by-set}
use Rattle.std.proofs.lemmas.Bool.Decides.{eqb_tells}
use Rattle.carp_base.specs.declared.edge.Task.{Task}
use Rattle.carp_base.specs.Problem.{Problem, IsRequired, edge_at}
use Rattle.plan_model.specs.declared.step.Step.{Step}
use Rattle.plan_model.specs.Plans.{no_step, step_at}
use Rattle.deadhead_paths.specs.Tours.{task_of}
use Rattle.augment_merge.specs.Augmenting.{augmented_tasks, is_absorbed, is_among}
use Rattle.augment_merge.specs.Absorbing.{FlagsSay, IsFlagged, unflagged}

or_false : (b : Bool) → (b || false) ≡ b
or_false true = refl
or_false false = refl

or_true : (b : Bool) → (b || true) ≡ true
or_true true = refl
or_true false = refl

-- a task more among others
pub among_more : (e : ℕ) (tasks : List Task) (t : Task) → is_among e (tasks ++ t ∷ []) ≡ (is_among e tasks || (t.edge == e))
among_more e tasks t = list_any-append (λ u. u.edge == e) tasks (t ∷ []) ∙ ap (λ b. is_among e tasks || b) (or_false (t.edge == e))

pub among_new : (e : ℕ) (tasks : List Task) (t : Task) → t.edge ≡ e → is_among e (tasks ++ t ∷ []) ≡ true
among_new e tasks t is = among_more e tasks t ∙ ap (λ b. is_among e tasks || b) (eq-eqb t.edge e is) ∙ or_true (is_among e tasks)

pub among_same : (e : ℕ) (tasks : List Task) (t : Task) → t.edge ≢ e → is_among e (tasks ++ t ∷ []) ≡ is_among e tasks
among_same e tasks t apart = elim (eqb_tells t.edge e) [
  | inl both ↦ absurd (apart both.1)
  | inr both ↦ among_more e tasks t ∙ ap (λ b. is_among e tasks || b) both.0 ∙ or_false (is_among e tasks)
]

module _ (p : Problem) (flags : List Bool) where
  -- one flag more, for a task more
  pub flags_more : (taken : List Task) (t : Task) → FlagsSay p flags taken → IsRequired p t.edge → FlagsSay p (set flags (t.edge - 1) true) (taken ++ t ∷ [])
  flags_more taken t say required = record {
    long = length-set flags (t.edge - 1) true ∙ say.long;
    says = λ e is. elim (cases_eq t.edge e) [
      | inl here ↦
          let place : e - 1 ≡ t.edge - 1 = ap (λ n. n - 1) (sym here) in
          ap (λ k. get_or (set flags (t.edge - 1) true) k false) place ∙ get_or-set_same flags (t.edge - 1) true false (omega (arith, say.long, required.from_one, required.in_range)) ∙ sym (among_new e taken t here)
      | inr there ↦
          get_or-set_other flags (t.edge - 1) (e - 1) true false (λ same. there (omega (arith, same, required.from_one, is.from_one))) ∙ say.says e is ∙ sym (among_same e taken t there)
    ];
  }

  -- a task more that had its flag
  pub flags_again : (taken : List Task) (t : Task) → FlagsSay p flags taken → IsFlagged p flags t.edge → FlagsSay p flags (taken ++ t ∷ [])
  flags_again taken t say has = record {
    long = say.long;
    says = λ e is. elim (cases_eq t.edge e) [
      | inl here ↦ ap (λ n. get_or flags (n - 1) false) (sym here) ∙ has.flagged ∙ sym (among_new e taken t here)
      | inr there ↦ say.says e is ∙ sym (among_same e taken t there)
    ];
  }

  flagged_still : (k e : ℕ) → k < length flags → IsFlagged p flags e → IsFlagged p (set flags k true) e
  flagged_still k e below has = record {
    required = has.required;
    flagged = elim (cases_eq (e - 1) k) [
      | inl here ↦ ap (λ n. get_or (set flags k true) n false) here ∙ get_or-set_same flags k true false below
      | inr there ↦ get_or-set_other flags k (e - 1) true false there ∙ has.flagged
    ];
  }

  pub own_still : (k : ℕ) (walk : List Step) → k < length flags → AllByRecursion (λ s. IsTrue s.served → IsFlagged p flags s.edge) walk → AllByRecursion (λ s. IsTrue s.served → IsFlagged p (set flags k true) s.edge) walk
  own_still k [] below own = tt
  own_still k (s ∷ walk) below own = ((λ serves. flagged_still k s.edge below (own.0 serves)), own_still k walk below own.1)

-- flags that are set leave no more without
pub no_more : (flags : List Bool) (k : ℕ) → k < length flags → unflagged (set flags k true) ≤ unflagged flags
no_more flags k below = let sum = sum_by-set (λ b. cond (not b) 1 0) flags k true false below in omega arith

pub one_fewer : (flags : List Bool) (k : ℕ) → k < length flags → get_or flags k false ≡ false → unflagged (set flags k true) + 1 ≡ unflagged flags
one_fewer flags k below is =
    let one : Bool → ℕ = λ b. cond (not b) 1 0 in
    let sum = sum_by-set one flags k true false below in
    let here : one (get_or flags k false) ≡ one false = ap one is in
    omega arith

module _ (p : Problem) where
  pub aug_served : (taken : List Task) (load : ℕ) (s : Step) (steps : List Step) → s.served ≡ true → augmented_tasks p taken load (s ∷ steps) ≡ task_of s ∷ augmented_tasks p (taken ++ task_of s ∷ []) load steps
  aug_served taken load s steps is = rw is refl

  pub aug_absorbed : (taken : List Task) (load : ℕ) (s : Step) (steps : List Step) → s.served ≡ false → is_absorbed p taken load s.edge ≡ true →
      augmented_tasks p taken load (s ∷ steps) ≡ task_of s ∷ augmented_tasks p (taken ++ task_of s ∷ []) (load + (edge_at p s.edge).demand) steps
  aug_absorbed taken load s steps is absorbed = rw (is, absorbed) refl

  pub aug_passed : (taken : List Task) (load : ℕ) (s : Step) (steps : List Step) → s.served ≡ false → is_absorbed p taken load s.edge ≡ false → augmented_tasks p taken load (s ∷ steps) ≡ augmented_tasks p taken load steps
  aug_passed taken load s steps is absorbed = rw (is, absorbed) refl

  -- a tour with what it serves from a place of the walk on
  pub goes_on : List Task → List Task → ℕ → List Step → ℕ → List Task
  goes_on taken tour load walk i = tour ++ augmented_tasks p (taken ++ tour) load (drop i walk)

  module _ (taken tour : List Task) (load : ℕ) (walk : List Step) (i : ℕ) (below : i < length walk) (s : Step) (s_is : s ≡ step_at walk i) where
    next : drop i walk ≡ s ∷ drop (i + 1) walk
    next = (rw (add-one, drop-cons walk i no_step) refl) ∙ ap (λ x. x ∷ drop (i + 1) walk) (sym s_is)

    task : Task
    task = task_of s

    -- with one task more
    more : (load' : ℕ) → augmented_tasks p (taken ++ tour) load (s ∷ drop (i + 1) walk) ≡ task ∷ augmented_tasks p ((taken ++ tour) ++ task ∷ []) load' (drop (i + 1) walk) →
        goes_on taken tour load walk i ≡ goes_on taken (tour ++ task ∷ []) load' walk (i + 1)
    unfolding goes_on
    more load' step =
        ap (λ steps. tour ++ augmented_tasks p (taken ++ tour) load steps) next ∙ ap (λ ts. tour ++ ts) step
        ∙ ap (λ ts. tour ++ (task ∷ augmented_tasks p ts load' (drop (i + 1) walk))) (append_assoc taken tour (task ∷ []))
        ∙ sym (append_assoc tour (task ∷ []) (augmented_tasks p (taken ++ (tour ++ task ∷ [])) load' (drop (i + 1) walk)))

    pub on_served : s.served ≡ true → goes_on taken tour load walk i ≡ goes_on taken (tour ++ task_of s ∷ []) load walk (i + 1)
    unfolding task
    on_served is = more load (aug_served (taken ++ tour) load s (drop (i + 1) walk) is)

    pub on_absorbed : s.served ≡ false → is_absorbed p (taken ++ tour) load s.edge ≡ true →
        goes_on taken tour load walk i ≡ goes_on taken (tour ++ task_of s ∷ []) (load + (edge_at p s.edge).demand) walk (i + 1)
    unfolding task
    on_absorbed is absorbed = more (load + (edge_at p s.edge).demand) (aug_absorbed (taken ++ tour) load s (drop (i + 1) walk) is absorbed)

    pub on_passed : s.served ≡ false → is_absorbed p (taken ++ tour) load s.edge ≡ false → goes_on taken tour load walk i ≡ goes_on taken tour load walk (i + 1)
    unfolding goes_on
    on_passed is absorbed = ap (λ steps. tour ++ augmented_tasks p (taken ++ tour) load steps) next ∙ ap (λ ts. tour ++ ts) (aug_passed (taken ++ tour) load s (drop (i + 1) walk) is absorbed)

  -- at the end of the walk
  pub at_end : (taken tour : List Task) (load first : ℕ) (walk : List Step) (i : ℕ) → length walk ≤ i → goes_on taken tour load walk i ≡ goes_on taken [] first walk 0 → tour ≡ augmented_tasks p taken first walk
  unfolding goes_on
  at_end taken tour load first walk i end goes =
      sym (append-nil tour) ∙ sym (ap (λ steps. tour ++ augmented_tasks p (taken ++ tour) load steps) (drop_all i walk end)) ∙ goes
      ∙ ap (λ ts. augmented_tasks p ts first walk) (append-nil taken)

  -- a service of the walk has its flag
  pub own_now : (flags : List Bool) (walk : List Step) (i : ℕ) (s : Step) → s ≡ step_at walk i → i < length walk → AllByRecursion (λ x. IsTrue x.served → IsFlagged p flags x.edge) walk → s.served ≡ true → IsFlagged p flags s.edge
  own_now flags walk i s s_is below own is =
      subst (λ x. IsTrue x.served → IsFlagged p flags x.edge) (sym s_is) (All-from_recursion (λ (x : Step). IsTrue x.served → IsFlagged p flags x.edge) walk own i no_step below) is

pub unserved : (b : Bool) → not b ≡ true → b ≡ false
unserved true is = sym is
unserved false is = refl

pub serving : (b : Bool) → not b ≡ false → b ≡ true
serving true is = refl
serving false is = sym is

pub same_says : (p : Problem) (flags : List Bool) (taken tour : List Task) (t : Task) → FlagsSay p flags ((taken ++ tour) ++ t ∷ []) → FlagsSay p flags (taken ++ (tour ++ t ∷ []))
same_says p flags taken tour t = subst (FlagsSay p flags) (append_assoc taken tour (t ∷ []))
