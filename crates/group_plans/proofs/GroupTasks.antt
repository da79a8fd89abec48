-- The edges of one group, as tasks.
use Rattle.std.proofs.Common.{◌≡◌, ℕ, zero, suc, ◌+◌, ◌<◌, ◌≤◌, ◌==◌, Bool, true, false, cond, List, [], ◌∷◌, ◌++◌, length, get_or, refl, ap, ◌∙◌, inl, inr, arith, length-append}
use Rattle.std.specs.List.{sum_by, count_by, AllByRecursion}
use Rattle.std.proofs.lemmas.Bool.{cases_eq, ne_eqb, eq-eqb}
use Rattle.std.proofs.lemmas.List.Sums.{sum_by-append}
use Rattle.carp_base.specs.declared.edge.Task.{Task}
use Rattle.carp_base.specs.Problem.{Problem, IsRequired, edge_at}
use Rattle.carp_base.specs.Packings.{demand_in, group_of}
use Rattle.task_tours.specs.Tours.{tour_load}
use Rattle.group_plans.specs.Gathering.{ServesGroup}
use Rattle.group_plans.specs.Groups.{gathered, own_task}

pub all-append : {X : Type 0} (P : X → Type 0) (xs ys : List X) → AllByRecursion P xs → AllByRecursion P ys → AllByRecursion P (xs ++ ys)
all-append P [] ys first second = second
all-append P (x ∷ xs) ys first second = (first.0, all-append P xs ys first.1 second)

-- a number where a test holds, else 0
abbrev pub given : Bool → ℕ → ℕ
given b k = cond b k 0

abbrev pub one_if : Bool → ℕ
one_if b = given b 1

-- the edge as a task, where a test holds
kept_sum : (f : Task → ℕ) (t : Task) (b : Bool) → sum_by f (cond b (t ∷ []) []) ≡ cond b (f t) 0
kept_sum f t true = omega arith
kept_sum f t false = refl

kept_all : (P : Task → Type 0) (t : Task) (b : Bool) → P t → AllByRecursion P (cond b (t ∷ []) [])
kept_all P t true holds = (holds, tt)
kept_all P t false holds = tt

kept_few : (t : Task) (b : Bool) → length (cond b (t ∷ []) []) ≤ 1
kept_few t true = omega arith
kept_few t false = omega arith

if_none : (b : Bool) → given b 0 ≡ 0
if_none true = refl
if_none false = refl

module _ (p : Problem) (groups : List ℕ) (g : ℕ) where
  abbrev edge_task : ℕ → Task
  edge_task e = record { edge = e; forward = true }

  -- one edge more in a sum over the tasks
  sum_more : (f : Task → ℕ) (n : ℕ) → sum_by f (gathered groups g (suc n)) ≡ sum_by f (gathered groups g n) + cond (get_or groups n 0 == g) (f (edge_task (suc n))) 0
  sum_more f n = omega (
    arith,
    sum_by-append f (gathered groups g n) (own_task (get_or groups n 0) g (suc n)),
    kept_sum f (edge_task (suc n)) (get_or groups n 0 == g),
  )

  required_ones : (n : ℕ) → n ≤ p.required → AllByRecursion (λ t. IsRequired p t.edge) (gathered groups g n)
  required_ones zero within = tt
  required_ones (suc n) within =
      all-append (λ t. IsRequired p t.edge) (gathered groups g n) (own_task (get_or groups n 0) g (suc n)) (required_ones n (omega arith))
      (kept_all (λ t. IsRequired p t.edge) (edge_task (suc n)) (get_or groups n 0 == g) (record { from_one = omega arith; in_range = within }))

  abbrev on : ℕ → Task → ℕ
  on e t = cond (t.edge == e) 1 0

  none_beyond : (e n : ℕ) → n < e → count_by (λ t. t.edge == e) (gathered groups g n) ≡ 0
  none_beyond e zero beyond = refl
  none_beyond e (suc n) beyond =
      let other : one_if (suc n == e) ≡ 0 = ap one_if (ne_eqb (suc n) e (λ same. omega arith)) in
      omega (
        arith,
        sum_more (on e) n,
        none_beyond e n (omega arith),
        ap (given (get_or groups n 0 == g)) other,
        if_none (get_or groups n 0 == g),
      )

  one_within : (e n : ℕ) → 1 ≤ e → e ≤ n → count_by (λ t. t.edge == e) (gathered groups g n) ≡ cond (group_of groups e == g) 1 0
  one_within e zero low high = absurd (omega arith)
  one_within e (suc n) low high = elim (cases_eq (suc n) e) [
    | inl is ↦
        let own : one_if (suc n == e) ≡ 1 = ap one_if (eq-eqb (suc n) e is) in
        omega (
          arith,
          sum_more (on e) n,
          none_beyond e n (omega arith),
          ap (given (get_or groups n 0 == g)) own,
          ap (λ k. one_if (group_of groups k == g)) is,
        )
    | inr differs ↦
        let other : one_if (suc n == e) ≡ 0 = ap one_if (ne_eqb (suc n) e differs) in
        omega (
          arith,
          sum_more (on e) n,
          one_within e n low (omega (arith, differs)),
          ap (given (get_or groups n 0 == g)) other,
          if_none (get_or groups n 0 == g),
        )
  ]

  load_is : (n : ℕ) → tour_load p (gathered groups g n) ≡ demand_in p groups g n
  load_is zero = refl
  load_is (suc n) = omega (arith, sum_more (λ t. (edge_at p t.edge).demand) n, load_is n)

  few_tasks : (n : ℕ) → length (gathered groups g n) ≤ n
  few_tasks zero = omega arith
  few_tasks (suc n) = omega (
    arith,
    few_tasks n,
    length-append (gathered groups g n) (own_task (get_or groups n 0) g (suc n)),
    kept_few (edge_task (suc n)) (get_or groups n 0 == g),
  )

  pub serves_group : length groups ≡ p.required → (tasks : List Task) → tasks ≡ gathered groups g (length groups) → ServesGroup p groups g tasks
  serves_group long tasks is =
      let whole : tasks ≡ gathered groups g p.required = is ∙ ap (gathered groups g) long in
      rw whole (record {
        required = required_ones p.required (omega arith);
        once = λ e required. one_within e p.required required.from_one required.in_range;
        load = load_is p.required;
        few = few_tasks p.required;
      })
