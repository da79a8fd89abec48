use Rattle.std.proofs.Common.{◌≡◌, ◌==◌, [], ◌∷◌, ℕ, ◌≤◌, cond, refl, arith}
use Rattle.std.specs.List.{count_by}
use Rattle.carp_base.specs.declared.edge.Task.{Task}
use Rattle.carp_base.specs.Packings.{group_of}
use Rattle.carp_base.specs.Problem.{IsRequired}
use Rattle.group_plans.specs.Examples.{against_street, on_street, triangle}
use Rattle.group_plans.proofs.SmallPackings.{up_to_three}
use Rattle.group_plans.proofs.examples.what_serves_a_group.Goals as goal

required_one : (e : ℕ) → 1 ≤ e → e ≤ 3 → IsRequired triangle e
required_one e low high = record { from_one = low; in_range = high }

pub returns-clause-any_order : goal.returns-clause-any_order
returns-clause-any_order c = record {
  required = (required_one 3 (omega arith) (omega arith), (required_one 1 (omega arith) (omega arith), tt));
  once = λ e is. up_to_three (λ e. count_by (λ (t : Task). t.edge == e) (against_street 3 ∷ on_street 1 ∷ []) ≡ cond (group_of (2 ∷ 1 ∷ 2 ∷ []) e == 2) 1 0) refl refl refl e is.from_one is.in_range;
  load = refl;
  few = omega arith;
}

pub returns-clause-one_missing : goal.returns-clause-one_missing
returns-clause-one_missing c = λ serves. absurd (omega (arith, serves.once 3 (required_one 3 (omega arith) (omega arith))))

pub returns-clause-other_group : goal.returns-clause-other_group
returns-clause-other_group c = λ serves. absurd (omega (arith, serves.once 2 (required_one 2 (omega arith) (omega arith))))
