-- The deadheads over a set are those on the edges that cross it, and one step serves what is served once.
use Rattle.std.proofs.Common.{◌≡◌, ℕ, zero, suc, ◌<◌, ◌≤◌, ◌==◌, Bool, true, false, ◌&&◌, not, cond, List, [], ◌∷◌, length, get_or, refl, sym, ap, ◌∙◌, arith, inl, inr}
use Rattle.std.specs.Prelude.{IsTrue}
use Rattle.std.specs.List.{sum_by, count_by}
use Rattle.std.proofs.lemmas.Bool.{cases_lt, cases_Bool, cases_eq, ne_eqb, false≢true}
use Rattle.std.proofs.lemmas.List.Sums.{sum_by-cons, get_or-le-sum_by}
use Rattle.std.proofs.Math.ListN.{get_or-eq_default}
use Rattle.carp_base.specs.Problem.{Problem, IsRequired, edge_at, no_edge}
use Rattle.plan_model.specs.declared.step.Step.{Step}
use Rattle.plan_model.specs.Sums.{sum_to}
use Rattle.plan_model.specs.Plans.{IsLawful, crosses, deadheads_on, deadheads_over, no_step, serves, steps_of}
use Rattle.plan_model.specs.Laws.{ServedOnlyAt}
use Rattle.plan_model.proofs.Sums.{sum_to-same, sum_by-sum_to}
use Rattle.plan_model.proofs.Services.{term}

abbrev one_if : Bool → ℕ
one_if b = cond b 1 0

-- what is no edge crosses nothing
no_crossing : (b : Bool) → cond b (not b) b ≡ false
no_crossing true = refl
no_crossing false = refl

crossing_edge : (p : Problem) (inside : ℕ → Bool) (e : ℕ) → crosses inside (edge_at p e) ≡ true → (1 ≤ e) × (e ≤ length p.edges)
crossing_edge p inside zero over = absurd (false≢true (sym (no_crossing (inside 0)) ∙ over))
crossing_edge p inside (suc k) over = elim (cases_lt k (length p.edges)) [
  | inl below ↦ (omega arith, omega (arith, below))
  | inr past ↦ absurd (false≢true (sym (no_crossing (inside 0)) ∙ sym (ap (crosses inside) (get_or-eq_default p.edges no_edge past)) ∙ over))
]

sum_none : {X : Type 0} (xs : List X) → sum_by (λ x. 0) xs ≡ 0
sum_none [] = refl
sum_none (x ∷ xs) = omega (arith, sum_by-cons (λ y. 0) x xs, sum_none xs)

-- a count that is taken where a test holds
count_where : {X : Type 0} (b : Bool) (q : X → Bool) (xs : List X) → sum_by (λ x. cond b (cond (q x) 1 0) 0) xs ≡ cond b (count_by q xs) 0
count_where true q xs = refl
count_where false q xs = sum_none xs

second_true : (b c : Bool) → IsTrue (b && c) → c ≡ true
second_true true c both = both
second_true false c both = absurd (false≢true both)

-- the tests of a step in another order, at the edge's own number
turned : (over : ℕ → Bool) (b : Bool) (e i : ℕ) → one_if ((b && over e) && (e == i)) ≡ cond (over i) (one_if (b && (e == i))) 0
turned over b e i = elim (cases_eq e i) [
  | inl same ↦ rw same (by b (over i) (i == i))
  | inr other ↦ rw (ne_eqb e i other) (none b (over e) (over i))
] where
  by : (b c q : Bool) → one_if ((b && c) && q) ≡ cond c (one_if (b && q)) 0
  by true true q = refl
  by true false q = refl
  by false true q = refl
  by false false q = refl

  none : (b c d : Bool) → one_if ((b && c) && false) ≡ cond d (one_if (b && false)) 0
  none true true true = refl
  none true true false = refl
  none true false true = refl
  none true false false = refl
  none false c true = refl
  none false c false = refl

module _ (p : Problem) (inside : ℕ → Bool) where
  abbrev over : ℕ → Bool
  over e = crosses inside (edge_at p e)

  -- a step counts at the edge that it is on, where that edge crosses
  abbrev counts_at : Step → ℕ → ℕ
  counts_at s e = cond (over e) (one_if (not s.served && (s.edge == e))) 0

  step_by_edge : (s : Step) → one_if (not s.served && over s.edge) ≡ sum_to (length p.edges) (counts_at s)
  step_by_edge s =
      term (length p.edges) (λ _. 1) (not s.served && over s.edge) s.edge (λ both. crossing_edge p inside s.edge (second_true _ _ both))
      ∙ sum_to-same (length p.edges) _ _ (λ e _ _. turned over (not s.served) s.edge e)

  steps_by_edge : (steps : List Step) → count_by (λ s. not s.served && over s.edge) steps ≡ sum_by (λ s. sum_to (length p.edges) (counts_at s)) steps
  steps_by_edge [] = refl
  steps_by_edge (s ∷ steps) =
      omega (
        arith,
        sum_by-cons (λ x. one_if (not x.served && over x.edge)) s steps,
        sum_by-cons (λ x. sum_to (length p.edges) (counts_at x)) s steps,
        step_by_edge s,
        steps_by_edge steps,
      )

  pub deadheads_by_edge : (plan : List (List Step)) →
      deadheads_over p inside plan ≡ sum_to (length p.edges) (λ e. cond (crosses inside (edge_at p e)) (deadheads_on e plan) 0)
  deadheads_by_edge plan =
      steps_by_edge (steps_of plan)
      ∙ sum_by-sum_to counts_at (length p.edges) (steps_of plan)
      ∙ sum_to-same (length p.edges) _ _ (λ e _ _. count_where (over e) (λ s. not s.served && (s.edge == e)) (steps_of plan))

-- where a test holds once, it holds at one place alone
record HoldsOnlyAt {X : Type 0} (q : X → Bool) (d : X) (xs : List X) (place : ℕ) : Type 0 where
  in_range : place < length xs
  holds : q (get_or xs place d) ≡ true
  only : (k : ℕ) → k < length xs → q (get_or xs k d) ≡ true → k ≡ place

one_place : {X : Type 0} (q : X → Bool) (d : X) (xs : List X) → count_by q xs ≡ 1 → (place : ℕ) × HoldsOnlyAt q d xs place
one_place q d [] once = absurd (omega (arith, once))
one_place q d (x ∷ xs) once = elim (cases_Bool (q x)) [
  | inl here ↦
      let none : count_by q xs ≡ 0 = omega (arith, once, sum_by-cons (λ y. cond (q y) 1 0) x xs, ap one_if here) in
      (0, record { in_range = omega arith; holds = here; only = first none })
  | inr not_here ↦
      let later : count_by q xs ≡ 1 = omega (arith, once, sum_by-cons (λ y. cond (q y) 1 0) x xs, ap one_if not_here) in
      let rest = one_place q d xs later in
      (suc rest.0, record { in_range = omega (arith, rest.1.in_range); holds = rest.1.holds; only = further rest.0 rest.1 not_here })
] where
  first : count_by q xs ≡ 0 → (k : ℕ) → k < length (x ∷ xs) → q (get_or (x ∷ xs) k d) ≡ true → k ≡ 0
  first none zero below holds = refl
  first none (suc k) below holds =
      absurd (omega (arith, none, get_or-le-sum_by (λ y. cond (q y) 1 0) xs k d (omega (arith, below)), ap one_if holds))

  further : (place : ℕ) → HoldsOnlyAt q d xs place → q x ≡ false → (k : ℕ) → k < length (x ∷ xs) → q (get_or (x ∷ xs) k d) ≡ true → k ≡ suc place
  further place rest not_here zero below holds = absurd (false≢true (sym not_here ∙ holds))
  further place rest not_here (suc k) below holds = ap suc (rest.only k (omega (arith, below)) holds)

pub served_by_one_step : (p : Problem) (plan : List (List Step)) (e : ℕ) → IsLawful p plan → IsRequired p e →
    (place : ℕ) × ServedOnlyAt (steps_of plan) e place
served_by_one_step p plan e lawful required =
    let found = one_place (serves e) no_step (steps_of plan) (lawful.once e required) in
    (found.0, record { in_range = found.1.in_range; served = found.1.holds; only = found.1.only })
