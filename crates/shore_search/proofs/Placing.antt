-- One shore more behind those that are placed.
use Rattle.std.proofs.Common.{◌≡◌, ℕ, zero, suc, ◌+◌, ◌<◌, ◌≤◌, ◌⊎◌, Bool, true, false, List, [], ◌∷◌, ◌++◌, length, nat_eq, not, refl, sym, ap, ◌∙◌, arith, inl, inr}
use Rattle.std.specs.List.{All, list_any}
use Rattle.std.specs.Cmp.Lexicographic.{pointwise, other_text}
use Rattle.std.proofs.lemmas.Bool.{cases_Bool, cases_lt, false≢true}
use Rattle.std.proofs.lemmas.List.{get_or_append_left, get_or_push, length-append}
use Rattle.std.proofs.lemmas.List.Elements.{All-push, All-get_or}
use Rattle.std.proofs.lemmas.List.Folds.{list_any_at}
use Rattle.carp_base.specs.Problem.{Problem}
use Rattle.cut_pool.specs.Shores.{Belongs, IsShore}
use Rattle.cut_pool.specs.Pools.{AreDifferent, IsShoreNumber, shore_at}
use Rattle.shore_search.specs.Shortfall.{AreFalling, FallsShort, shortfall}
use Rattle.shore_search.specs.Tables.{AreShortBy}

longer : (shores : List (List ℕ)) (shore : List ℕ) → length (shores ++ shore ∷ []) ≡ length shores + 1
longer shores shore = length-append shores (shore ∷ [])

-- the shore of a number is one of those before, or the last one
stands : (shores : List (List ℕ)) (shore : List ℕ) (i : ℕ) → IsShoreNumber (shores ++ shore ∷ []) i →
    (IsShoreNumber shores i × (shore_at (shores ++ shore ∷ []) i ≡ shore_at shores i)) ⊎ ((i ≡ length shores + 1) × (shore_at (shores ++ shore ∷ []) i ≡ shore))
stands shores shore zero number = absurd (omega (arith, number.from_one))
stands shores shore (suc k) number = elim (cases_lt k (length shores)) [
  | inl less ↦ inl (record { from_one = omega arith; in_range = omega (arith, less) }, get_or_append_left shores (shore ∷ []) [] k less)
  | inr most ↦
      let here : length shores ≡ k = omega (arith, most, number.in_range, longer shores shore) in
      inr (omega (arith, here), get_or_push shores shore [] k here)
]

pointwise_refl : (xs : List ℕ) → pointwise nat_eq xs xs ≡ true
pointwise_refl xs = elim (cases_Bool (pointwise nat_eq xs xs)) [
  | inl same ↦ same
  | inr other ↦ absurd (other_text xs xs (sym other) refl)
]

-- a shore that is not found is none of them
is_new : (shores : List (List ℕ)) (shore : List ℕ) (i : ℕ) → list_any (λ y. pointwise nat_eq y shore) shores ≡ false → IsShoreNumber shores i → shore_at shores i ≡ shore → ⊥
is_new shores shore zero none number same = omega (arith, number.from_one)
is_new shores shore (suc k) none number same =
    let here = ap (λ y. pointwise nat_eq y shore) same ∙ pointwise_refl shore in
    false≢true (sym none ∙ list_any_at (λ y. pointwise nat_eq y shore) shores k [] (omega (arith, number.in_range)) here)

different : (shores : List (List ℕ)) (shore : List ℕ) → AreDifferent shores → list_any (λ y. pointwise nat_eq y shore) shores ≡ false → AreDifferent (shores ++ shore ∷ [])
different shores shore are none i j i_is j_is same = elim (stands shores shore i i_is) [
  | inl first ↦ elim (stands shores shore j j_is) [
    | inl second ↦ are i j first.0 second.0 (sym first.1 ∙ same ∙ second.1)
    | inr last ↦ absurd (is_new shores shore i none first.0 (sym first.1 ∙ same ∙ last.1))
  ]
  | inr last ↦ elim (stands shores shore j j_is) [
    | inl second ↦ absurd (is_new shores shore j none second.0 (sym second.1 ∙ sym same ∙ last.1))
    | inr last' ↦ omega (arith, last.0, last'.0)
  ]
]

above : (P : List ℕ → Type 0) (shores : List (List ℕ)) (i : ℕ) → All P shores → IsShoreNumber shores i → P (shore_at shores i)
above P shores zero each number = absurd (omega (arith, number.from_one))
above P shores (suc k) each number = All-get_or P shores k [] (omega (arith, number.in_range)) each

falling : (p : Problem) (x : List ℕ) (shores : List (List ℕ)) (shore : List ℕ) → AreFalling p x shores → All (λ s. shortfall p x shore ≤ shortfall p x s) shores →
    AreFalling p x (shores ++ shore ∷ [])
falling p x shores shore are less i j i_is j_is most = elim (stands shores shore j j_is) [
  | inl second ↦ elim (stands shores shore i i_is) [
    | inl first ↦ rw (first.1, second.1) (are i j first.0 second.0 most)
    | inr last ↦ absurd (omega (arith, last.0, second.0.in_range, most))
  ]
  | inr last ↦ elim (stands shores shore i i_is) [
    | inl first ↦ rw (first.1, last.1) (above (λ s. shortfall p x shore ≤ shortfall p x s) shores i less first.0)
    | inr last' ↦ rw (last.1, last'.1) (omega arith)
  ]
]

weaker : (p : Problem) (x : List ℕ) (low high : ℕ) (shores : List (List ℕ)) → low ≤ high → All (λ s. high ≤ shortfall p x s) shores → All (λ s. low ≤ shortfall p x s) shores
weaker p x low high shores less each i d below = omega (arith, less, each i d below)

pub none_from : (there : Bool) → not there ≡ true → there ≡ false
none_from true new = absurd (false≢true new)
none_from false new = refl

-- a new shore that falls short by no more than the others
pub placed : (p : Problem) (x : List ℕ) (most last short : ℕ) (shores : List (List ℕ)) (shore : List ℕ) →
    AreShortBy p x most last shores → IsShore shore → Belongs p shore → short ≡ shortfall p x shore → 1048 < short → short ≤ last → length shores < most →
    list_any (λ y. pointwise nat_eq y shore) shores ≡ false → AreShortBy p x most short (shores ++ shore ∷ [])
placed p x most last short shores shore are set belongs value large small room none =
    let least = weaker p x (shortfall p x shore) last shores (omega (arith, value, small)) are.above in
    record {
      short = record {
        few = omega (arith, room, longer shores shore);
        each = All-push (FallsShort p x) shores shore are.short.each (record { set = set; belongs = belongs; short = omega (arith, value, large) });
        different = different shores shore are.short.different none;
        falling = falling p x shores shore are.short.falling least;
      };
      above = All-push (λ s. short ≤ shortfall p x s) shores shore (weaker p x short last shores small are.above) (omega (arith, value));
    }
