-- How many tasks serve each required edge once.
use Rattle.std.proofs.Common.{◌≡◌, ℕ, zero, suc, ◌+◌, ◌≤◌, ◌==◌, Bool, cond, List, [], ◌∷◌, length, refl, arith, nat_le}
use Rattle.std.specs.List.{AllByRecursion, count_by}
use Rattle.std.proofs.lemmas.Bool.Decides.{nat_tests}
use Rattle.std.proofs.lemmas.List.Sums.{sum_by-cons}
use Rattle.carp_base.specs.declared.edge.Task.{Task}
use Rattle.carp_base.specs.Problem.{Problem, IsRequired}
use Rattle.task_tours.specs.Tours.{AreServedOnce}

-- the tasks on edges up to a number
abbrev up_to : ℕ → List Task → ℕ
up_to k tasks = count_by (λ t. nat_le t.edge k) tasks

one_more : (e k : ℕ) → cond (nat_le e (suc k)) 1 0 ≡ cond (nat_le e k) 1 0 + cond (e == suc k) 1 0
one_more e k = grind (arith, nat_tests)

up_to_more : (k : ℕ) (tasks : List Task) → up_to (suc k) tasks ≡ up_to k tasks + count_by (λ t. t.edge == suc k) tasks
up_to_more k [] = refl
up_to_more k (t ∷ tasks) =
    omega (
      arith,
      one_more t.edge k,
      up_to_more k tasks,
      sum_by-cons (λ (u : Task). cond (nat_le u.edge (suc k)) 1 0) t tasks,
      sum_by-cons (λ (u : Task). cond (nat_le u.edge k) 1 0) t tasks,
      sum_by-cons (λ (u : Task). cond (u.edge == suc k) 1 0) t tasks,
    )

abbrev one_if : Bool → ℕ
one_if b = cond b 1 0

some_past : (e : ℕ) → 1 ≤ e → one_if (nat_le e 0) ≡ 0
some_past e some = grind (arith, nat_tests)

all_within : (e k : ℕ) → e ≤ k → one_if (nat_le e k) ≡ 1
all_within e k within = grind (arith, nat_tests)

module _ (p : Problem) where
  none_up_to : (tasks : List Task) → AllByRecursion (λ t. IsRequired p t.edge) tasks → up_to 0 tasks ≡ 0
  none_up_to [] required = refl
  none_up_to (t ∷ tasks) required = omega (arith, sum_by-cons (λ (u : Task). cond (nat_le u.edge 0) 1 0) t tasks, some_past t.edge required.0.from_one, none_up_to tasks required.1)

  all_up_to : (tasks : List Task) → AllByRecursion (λ t. IsRequired p t.edge) tasks → up_to p.required tasks ≡ length tasks
  all_up_to [] required = refl
  all_up_to (t ∷ tasks) required =
      omega (arith, sum_by-cons (λ (u : Task). cond (nat_le u.edge p.required) 1 0) t tasks, all_within t.edge p.required required.0.in_range, all_up_to tasks required.1)

  counted : (tasks : List Task) → AreServedOnce p tasks → (k : ℕ) → k ≤ p.required → up_to k tasks ≡ k
  counted tasks served zero within = none_up_to tasks served.required
  counted tasks served (suc k) within =
      omega (arith, up_to_more k tasks, counted tasks served k (omega arith), served.once (suc k) (record { from_one = omega arith; in_range = within }))

  pub as_many : (tasks : List Task) → AreServedOnce p tasks → length tasks ≡ p.required
  as_many tasks served = omega (arith, counted tasks served p.required (omega arith), all_up_to tasks served.required)
