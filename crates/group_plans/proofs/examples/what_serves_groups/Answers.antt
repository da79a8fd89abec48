use Rattle.std.proofs.Common.{◌≡◌, ◌-◌, ◌==◌, [], ◌∷◌, cond, refl, arith}
use Rattle.std.specs.List.{count_by}
use Rattle.carp_base.specs.Packings.{group_of}
use Rattle.plan_model.specs.Plans.{serves, walk_at}
use Rattle.group_plans.specs.Examples.{outer_walk, second_walk}
use Rattle.group_plans.proofs.SmallPackings.{one_or_two, up_to_three}
use Rattle.group_plans.proofs.examples.what_serves_groups.Goals as goal

pub returns-clause-two : goal.returns-clause-two
returns-clause-two c = record {
  one_each = refl;
  served = λ g e is required.
      one_or_two (λ g. count_by (serves e) (walk_at (second_walk ∷ outer_walk ∷ []) (g - 1)) ≡ cond (group_of (2 ∷ 1 ∷ 2 ∷ []) e == g) 1 0)
      (up_to_three (λ e. count_by (serves e) second_walk ≡ cond (group_of (2 ∷ 1 ∷ 2 ∷ []) e == 1) 1 0) refl refl refl e required.from_one required.in_range)
      (up_to_three (λ e. count_by (serves e) outer_walk ≡ cond (group_of (2 ∷ 1 ∷ 2 ∷ []) e == 2) 1 0) refl refl refl e required.from_one required.in_range) g is.from_one is.in_range;
}

pub returns-clause-exchanged : goal.returns-clause-exchanged
returns-clause-exchanged c = λ serves. absurd (omega (arith, serves.served 1 1 (record { from_one = omega arith; in_range = omega arith }) (record { from_one = omega arith; in_range = omega arith })))

pub returns-clause-unserved : goal.returns-clause-unserved
returns-clause-unserved c = λ serves. absurd (omega (arith, serves.served 1 2 (record { from_one = omega arith; in_range = omega arith }) (record { from_one = omega arith; in_range = omega arith })))
