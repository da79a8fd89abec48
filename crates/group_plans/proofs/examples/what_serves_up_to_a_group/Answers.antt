use Rattle.std.proofs.Common.{◌≡◌, ◌+◌, ◌<◌, ◌==◌, [], ◌∷◌, ℕ, zero, suc, ◌≤◌, cond, get_or, refl, arith}
use Rattle.std.specs.List.{count_by}
use Rattle.carp_base.specs.declared.edge.Task.{Task}
use Rattle.carp_base.specs.Packings.{group_of}
use Rattle.carp_base.specs.Problem.{IsRequired}
use Rattle.group_plans.specs.Examples.{on_street, triangle}
use Rattle.group_plans.proofs.SmallPackings.{up_to_three}
use Rattle.group_plans.proofs.examples.what_serves_up_to_a_group.Goals as goal

required_one : (e : ℕ) → 1 ≤ e → e ≤ 3 → IsRequired triangle e
required_one e low high = record { from_one = low; in_range = high }

first_serves : (k e : ℕ) → k < 1 → IsRequired triangle e → count_by (λ (t : Task). t.edge == e) (get_or ((on_street 2 ∷ []) ∷ []) k []) ≡ cond (group_of (2 ∷ 1 ∷ 2 ∷ []) e == (k + 1)) 1 0
first_serves zero e below is = up_to_three (λ e. count_by (λ (t : Task). t.edge == e) (on_street 2 ∷ []) ≡ cond (group_of (2 ∷ 1 ∷ 2 ∷ []) e == 1) 1 0) refl refl refl e is.from_one is.in_range
first_serves (suc k) e below is = absurd (omega (arith, below))

pub returns-clause-first : goal.returns-clause-first
returns-clause-first c = record {
  one_each = refl;
  required = (required_one 2 (omega arith) (omega arith), tt);
  served = λ e is.
      up_to_three (λ e. 1 ≤ group_of (2 ∷ 1 ∷ 2 ∷ []) e → group_of (2 ∷ 1 ∷ 2 ∷ []) e ≤ 1 → count_by (λ (t : Task). t.edge == e) (on_street 2 ∷ []) ≡ 1)
      (λ low high. absurd (omega (arith, high))) (λ low high. refl) (λ low high. absurd (omega (arith, high))) e is.from_one is.in_range;
  unserved = λ e is.
      up_to_three (λ e. 1 < group_of (2 ∷ 1 ∷ 2 ∷ []) e → count_by (λ (t : Task). t.edge == e) (on_street 2 ∷ []) ≡ 0)
      (λ above. refl) (λ above. absurd (omega (arith, above))) (λ above. refl) e is.from_one is.in_range;
  loads = λ fit. (omega arith, tt);
  each = first_serves;
}

pub returns-clause-other : goal.returns-clause-other
returns-clause-other c = λ serves. absurd (omega (arith, serves.unserved 1 (required_one 1 (omega arith) (omega arith)) (omega arith)))
