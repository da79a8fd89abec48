-- The least other edge that is served, over one more step or one more walk.
use Rattle.std.proofs.Common.{◌≡◌, ℕ, ◌+◌, ◌<◌, ◌≤◌, ◌⊎◌, Bool, true, false, Option, Some, None, List, [], length, take, min, refl, arith, inl, inr}
use Rattle.std.proofs.lemmas.Bool.{cases_lt}
use Rattle.std.specs.Prelude.{IsTrue, if◌then◌else◌}
use Rattle.std.specs.List.{sum_by, count_by}
use Rattle.std.proofs.lemmas.List.Sums.{sum_by_more}
use Rattle.carp_base.specs.Problem.{Problem, IsRequired}
use Rattle.plan_model.specs.declared.step.Step.{Step}
use Rattle.plan_model.specs.Plans.{no_step, serves, services_of, steps_of, step_at, walk_at}
use Rattle.plan_model.specs.Offers.{smaller}
use Rattle.plan_model.specs.Passes.{FindsLeast, ServesOtherIn}
use Rattle.plan_model.proofs.Costs.{sum_by_walks}

-- how often an edge is served, over one more step and over one more walk
count_more : (e : ℕ) (walk : List Step) (i : ℕ) (s : Step) → i < length walk → s ≡ step_at walk i →
    count_by (serves e) (take (i + 1) walk) ≡ count_by (serves e) (take i walk) + (if serves e s then 1 else 0)
count_more e walk i s below is = rw is (sum_by_more (λ x. if serves e x then 1 else 0) walk i no_step below)

services_more : (e : ℕ) (plan : List (List Step)) (i : ℕ) (walk : List Step) → i < length plan → walk ≡ walk_at plan i →
    services_of e (take (i + 1) plan) ≡ services_of e (take i plan) + count_by (serves e) walk
services_more e plan i walk below is =
    let one : Step → ℕ = λ s. if serves e s then 1 else 0 in
    rw is (omega (
      arith,
      sum_by_walks one (take (i + 1) plan),
      sum_by_walks one (take i plan),
      sum_by_more (λ w. sum_by one w) plan i [] below,
    ))

-- the least number of either kind
least_of_either : (P Q R : ℕ → Type 0) (a b : Option ℕ) → FindsLeast P a → FindsLeast Q b →
    ((e : ℕ) → R e → P e ⊎ Q e) → ((e : ℕ) → P e → R e) → ((e : ℕ) → Q e → R e) → FindsLeast R (smaller a b)
least_of_either P Q R None None a_is b_is split p_is q_is = λ e r. elim (split e r) [ inl p ↦ a_is e p | inr q ↦ b_is e q ]
least_of_either P Q R None (Some b) a_is b_is split p_is q_is =
    (q_is b b_is.0, λ d r. elim (split d r) [ inl p ↦ absurd (a_is d p) | inr q ↦ b_is.1 d q ])
least_of_either P Q R (Some a) None a_is b_is split p_is q_is =
    (p_is a a_is.0, λ d r. elim (split d r) [ inl p ↦ a_is.1 d p | inr q ↦ absurd (b_is d q) ])
least_of_either P Q R (Some a) (Some b) a_is b_is split p_is q_is = elim (cases_lt b a) [
  | inl less ↦ let same : min a b ≡ b = omega arith in
      rw same (q_is b b_is.0, λ d r. elim (split d r) [ inl p ↦ omega (arith, a_is.1 d p) | inr q ↦ b_is.1 d q ])
  | inr most ↦ let same : min a b ≡ a = omega arith in
      rw same (p_is a a_is.0, λ d r. elim (split d r) [ inl p ↦ a_is.1 d p | inr q ↦ omega (arith, b_is.1 d q) ])
]

some_of_two : (m n k : ℕ) → k ≡ m + n → 1 ≤ k → (1 ≤ m) ⊎ (1 ≤ n)
some_of_two m n k is some = elim (cases_lt 0 m) [ inl more ↦ inl (omega arith) | inr none ↦ inr (omega arith) ]

true_where_one : (b : Bool) → 1 ≤ (if b then 1 else 0) → IsTrue b
true_where_one true one = refl
true_where_one false one = absurd (omega (arith, one))

one_where_true : (b : Bool) → IsTrue b → 1 ≤ (if b then 1 else 0)
one_where_true b is = rw is (omega arith)

pub least_step : (p : Problem) (walk : List Step) (i : ℕ) (s : Step) (a b : Option ℕ) → i < length walk → s ≡ step_at walk i →
    FindsLeast (ServesOtherIn p (take i walk)) a → FindsLeast (λ e. ¬ (IsRequired p e) × IsTrue (serves e s)) b →
    FindsLeast (ServesOtherIn p (take (i + 1) walk)) (smaller a b)
least_step p walk i s a b below is a_is b_is = least_of_either (ServesOtherIn p (take i walk)) (λ e. ¬ (IsRequired p e) × IsTrue (serves e s)) _ a b a_is b_is
    (λ e found. elim (some_of_two _ _ _ (count_more e walk i s below is) found.1) [ inl before ↦ inl (found.0, before) | inr here ↦ inr (found.0, true_where_one _ here) ])
    (λ e found. (found.0, omega (arith, found.1, count_more e walk i s below is)))
    (λ e found. (found.0, omega (arith, one_where_true _ found.1, count_more e walk i s below is)))

pub least_walk : (p : Problem) (plan : List (List Step)) (i : ℕ) (walk : List Step) (a b : Option ℕ) → i < length plan → walk ≡ walk_at plan i →
    FindsLeast (ServesOtherIn p (steps_of (take i plan))) a → FindsLeast (ServesOtherIn p walk) b →
    FindsLeast (ServesOtherIn p (steps_of (take (i + 1) plan))) (smaller a b)
least_walk p plan i walk a b below is a_is b_is = least_of_either (ServesOtherIn p (steps_of (take i plan))) (ServesOtherIn p walk) _ a b a_is b_is
    (λ e found. elim (some_of_two _ _ _ (services_more e plan i walk below is) found.1) [ inl before ↦ inl (found.0, before) | inr here ↦ inr (found.0, here) ])
    (λ e found. (found.0, omega (arith, found.1, services_more e plan i walk below is)))
    (λ e found. (found.0, omega (arith, found.1, services_more e plan i walk below is)))
