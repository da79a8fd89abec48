-- A pool after a shore was placed.
use Rattle.std.proofs.Common.{◌≡◌, ◌⊎◌, ℕ, ◌+◌, length, zero, suc, true, false, List, [], ◌∷◌, ◌++◌, get_or, nat_eq, sym, ap, ◌∙◌, subst, refl, arith, inl, inr}
use Rattle.std.specs.List.{All, list_any}
use Rattle.std.specs.Cmp.Lexicographic.{pointwise, same_text, other_text}
use Rattle.std.proofs.Math.Seq.{get_or-append_seam}
use Rattle.std.proofs.lemmas.Bool.{cases_Bool, false≢true}
use Rattle.std.proofs.lemmas.List.{append-nil, append_assoc, get_or_default, length-append}
use Rattle.std.proofs.lemmas.List.Folds.{list_any_at, Any-from_list_any}
use Rattle.std.proofs.lemmas.List.Elements.{All-append, All-cons, All-nil}
use Rattle.carp_base.specs.Problem.{Problem}
use Rattle.cut_pool.specs.Pools.{Holds, IsGrown, IsHeldAs}
use Rattle.cut_pool.specs.Shores.{Belongs}

pointwise_refl : (xs : List ℕ) → pointwise nat_eq xs xs ≡ true
pointwise_refl xs = elim (cases_Bool (pointwise nat_eq xs xs)) [
  | inl same ↦ same
  | inr other ↦ absurd (other_text xs xs (sym other) refl)
]

none_held : (xs : List (List ℕ)) (x : List ℕ) → list_any (pointwise nat_eq x) xs ≡ false → ¬ (Holds xs x)
none_held xs x none (zero, is) = omega (arith, is.number.from_one)
none_held xs x none (suc k, is) =
    absurd (false≢true (sym none ∙ list_any_at (pointwise nat_eq x) xs k [] (omega (arith, is.number.in_range)) (ap (pointwise nat_eq x) is.same ∙ pointwise_refl x)))

-- whether a pool holds a shore can be decided
held : (pool : List (List ℕ)) (shore : List ℕ) → Holds pool shore ⊎ (¬ (Holds pool shore))
held pool shore = elim (cases_Bool (list_any (pointwise nat_eq shore) pool)) [
  | inl there ↦
      let found = Any-from_list_any (pointwise nat_eq shore) pool there in
      let same : get_or pool found.0 [] ≡ shore = get_or_default pool found.0 [] found.1 found.2 ∙ found.3 ∙ sym (same_text shore found.1 (sym found.4)) in
      inl (suc found.0, record { number = record { from_one = omega arith; in_range = omega (arith, found.2) }; same = same })
  | inr none ↦ inr (none_held pool shore none)
]

-- a pool that a shore was added to, as the pool says it
pub record IsAfter (pool after : List (List ℕ)) (shore : List ℕ) : Type 0 where
  pub old : Holds pool shore → after ≡ pool
  pub new : ¬ (Holds pool shore) → after ≡ pool ++ shore ∷ []

last_is_held : (pool : List (List ℕ)) (shore : List ℕ) → IsHeldAs (pool ++ shore ∷ []) shore (suc (length pool))
last_is_held pool shore = record {
  number = record { from_one = omega arith; in_range = omega (arith, length-append pool (shore ∷ [])) };
  same = get_or-append_seam pool shore [] [];
}

-- a pool that a shore was added to holds it under the number that it got
pub after_holds : (pool after : List (List ℕ)) (shore : List ℕ) (number : ℕ) → IsAfter pool after shore → (Holds pool shore → IsHeldAs pool shore number) → (¬ (Holds pool shore) → number ≡ length pool + 1) → IsHeldAs after shore number
after_holds pool after shore number is old new = elim (held pool shore) [
  | inl there ↦ subst (λ (now : List (List ℕ)). IsHeldAs now shore number) (sym (is.old there)) (old there)
  | inr none ↦
      let same : number ≡ suc (length pool) = omega (arith, new none) in
      subst (λ (now : List (List ℕ)). IsHeldAs now shore number) (sym (is.new none)) (subst (IsHeldAs (pool ++ shore ∷ []) shore) (sym same) (last_is_held pool shore))
]

pub after_grows : (pool after : List (List ℕ)) (shore : List ℕ) → IsAfter pool after shore → IsGrown pool after
after_grows pool after shore is = elim (held pool shore) [
  | inl there ↦ record { more = []; added = is.old there ∙ sym (append-nil pool) }
  | inr new ↦ record { more = shore ∷ []; added = is.new new }
]

pub after_belongs : (p : Problem) (pool after : List (List ℕ)) (shore : List ℕ) → IsAfter pool after shore → Belongs p shore → All (Belongs p) pool → All (Belongs p) after
after_belongs p pool after shore is belongs all = elim (held pool shore) [
  | inl there ↦ subst (All (Belongs p)) (sym (is.old there)) all
  | inr new ↦ subst (All (Belongs p)) (sym (is.new new)) (All-append (Belongs p) pool (shore ∷ []) all (All-cons (Belongs p) shore [] belongs (All-nil (Belongs p))))
]

pub grows_more : (pool middle after : List (List ℕ)) → IsGrown pool middle → IsGrown middle after → IsGrown pool after
grows_more pool middle after one other =
    record { more = one.more ++ other.more; added = other.added ∙ ap (λ xs. xs ++ other.more) one.added ∙ append_assoc pool one.more other.more }

pub grown_by_none : (pool : List (List ℕ)) → IsGrown pool pool
grown_by_none pool = record { more = []; added = sym (append-nil pool) }
