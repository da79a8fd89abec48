-- What a set of keys says of a pool.
use Rattle.std.proofs.Common.{◌≡◌, ℕ, zero, suc, ◌+◌, ◌<◌, true, false, List, [], ◌∷◌, ◌++◌, Some, length, get_or, nat_eq, sym, ap, ◌∙◌, arith, add-one, inl, inr, refl}
use Rattle.std.specs.Prelude.{if◌then◌else◌}
use Rattle.std.specs.List.{list_any, position, IsDistinct}
use Rattle.std.specs.Cmp.Lexicographic.{pointwise, same_text, other_text}
use Rattle.std.proofs.lemmas.Bool.{cases_Bool, cases_lt, false≢true}
use Rattle.std.proofs.lemmas.List.{get_or_default}
use Rattle.std.proofs.lemmas.List.Quantifiers.{position-Some}
use Rattle.std.proofs.lemmas.List.Folds.{list_any_at, Any-from_list_any}
use Rattle.std.proofs.lemmas.Map.Keys.{apart_from_distinct}
use Rattle.cut_pool.specs.Pools.{AreDifferent, Holds, IsHeldAs}

pointwise_refl : (xs : List ℕ) → pointwise nat_eq xs xs ≡ true
pointwise_refl xs = elim (cases_Bool (pointwise nat_eq xs xs)) [
  | inl same ↦ same
  | inr other ↦ absurd (other_text xs xs (sym other) refl)
]

pub held_where_found : (pool : List (List ℕ)) (shore : List ℕ) (i : ℕ) → Some i ≡ position (pointwise nat_eq shore) pool → IsHeldAs pool shore (i + 1)
held_where_found pool shore i found =
    let there = position-Some (pointwise nat_eq shore) pool i [] (sym found) in
    rw add-one (record {
      number = record { from_one = omega arith; in_range = omega (arith, there.0) };
      same = sym (same_text shore (get_or pool i []) (sym there.1));
    })

pub not_held : (pool : List (List ℕ)) (shore : List ℕ) → list_any (pointwise nat_eq shore) pool ≡ false → ¬ (Holds pool shore)
not_held pool shore none (zero, held) = omega (arith, held.number.from_one)
not_held pool shore none (suc k, held) =
    let here = ap (pointwise nat_eq shore) held.same ∙ pointwise_refl shore in
    absurd (false≢true (sym none ∙ list_any_at (pointwise nat_eq shore) pool k [] (omega (arith, held.number.in_range)) here))

pub placed_last : (pool : List (List ℕ)) (shore : List ℕ) → ¬ (Holds pool shore) →
    (if list_any (pointwise nat_eq shore) pool then pool else pool ++ shore ∷ []) ≡ pool ++ shore ∷ []
placed_last pool shore new = elim (cases_Bool (list_any (pointwise nat_eq shore) pool)) [
  | inl there ↦
      let found = Any-from_list_any (pointwise nat_eq shore) pool there in
      let same : get_or pool found.0 [] ≡ shore = get_or_default pool found.0 [] found.1 found.2 ∙ found.3 ∙ sym (same_text shore found.1 (sym found.4)) in
      absurd (new (suc found.0, record { number = record { from_one = omega arith; in_range = omega (arith, found.2) }; same = same }))
  | inr none ↦ rw none refl
]

pub different : (pool : List (List ℕ)) → IsDistinct (pointwise nat_eq) pool → AreDifferent pool
different pool distinct zero j i_is j_is same = absurd (omega (arith, i_is.from_one))
different pool distinct (suc i) zero i_is j_is same = absurd (omega (arith, j_is.from_one))
different pool distinct (suc i) (suc j) i_is j_is same = ap suc (elim (cases_lt i j) [
  | inl less ↦ absurd (apart i j less (omega (arith, j_is.in_range)) same)
  | inr most ↦ elim (cases_lt j i) [
    | inl more ↦ absurd (apart j i more (omega (arith, i_is.in_range)) (sym same))
    | inr least ↦ omega (arith, most, least)
  ]
]) where
  apart : (k n : ℕ) → k < n → n < length pool → get_or pool k [] ≡ get_or pool n [] → ⊥
  apart k n less below same' =
      other_text (get_or pool k []) (get_or pool n []) (sym (apart_from_distinct (pointwise nat_eq) pool k n [] distinct less below)) same'
