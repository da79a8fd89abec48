use Rattle.std.proofs.Common.{◌≡◌, [], ◌∷◌, ℕ, zero, suc, ◌≤◌, refl, arith}
use Rattle.carp_base.specs.Problem.{IsRequired}
use Rattle.carp_base.specs.Packings.{IsGroup, IsPacking, group_load, group_of}
use Rattle.carp_base.specs.Examples.{two_tasks}
use Rattle.carp_base.proofs.examples.a_packing.Goals as goal

-- what is so of 1 and of 2 is so of each number from 1 to 2
one_or_two : (P : ℕ → Type 0) → P 1 → P 2 → (n : ℕ) → 1 ≤ n → n ≤ 2 → P n
one_or_two P one two zero low high = absurd (omega (arith, low))
one_or_two P one two (suc zero) low high = one
one_or_two P one two (suc (suc zero)) low high = two
one_or_two P one two (suc (suc (suc n))) low high = absurd (omega (arith, high))

pub returns-clause-packing : goal.returns-clause-packing
returns-clause-packing c = record {
  one_each = refl;
  placed = λ e is. one_or_two (λ e. IsGroup 2 (group_of (2 ∷ 1 ∷ []) e)) (record { from_one = omega arith; in_range = omega arith }) (record { from_one = omega arith; in_range = omega arith }) e is.from_one is.in_range;
  none_empty = λ g is.
      one_or_two (λ g. (e : ℕ) × IsRequired two_tasks e × (group_of (2 ∷ 1 ∷ []) e ≡ g)) (2, record { from_one = omega arith; in_range = omega arith }, refl)
      (1, record { from_one = omega arith; in_range = omega arith }, refl) g is.from_one is.in_range;
  loads = λ g is. one_or_two (λ g. group_load two_tasks (2 ∷ 1 ∷ []) g ≤ 1) (omega arith) (omega arith) g is.from_one is.in_range;
}
