-- Shores of one vertex, and pools that are tried for them.
use Rattle.std.proofs.Common.{◌≡◌, ◌≢◌, ◌⊎◌, ℕ, zero, suc, ◌+◌, ◌-◌, ◌<◌, ◌≤◌, true, false, List, [], ◌∷◌, ◌++◌, length, get_or, nat_eq, sym, ap, ◌∙◌, subst, refl, arith, inl, inr}
use Rattle.std.specs.List.{All, list_any}
use Rattle.std.specs.Cmp.Lexicographic.{pointwise, same_text, other_text}
use Rattle.std.proofs.lemmas.Bool.{cases_Bool, false≢true}
use Rattle.std.proofs.lemmas.List.{append-nil, append_assoc, get_or_default}
use Rattle.std.proofs.lemmas.List.Folds.{list_any_at, Any-from_list_any}
use Rattle.std.proofs.lemmas.List.Elements.{All-append, All-cons, All-nil}
use Rattle.carp_base.specs.Problem.{Problem, IsVertex}
use Rattle.cut_pool.specs.Pools.{Holds}
use Rattle.cut_pool.specs.Shores.{Belongs, is_in, need}
use Rattle.dual_master.specs.Singles.{HasSingles, IsTried, one_more, as_before}

pointwise_refl : (xs : List ℕ) → pointwise nat_eq xs xs ≡ true
pointwise_refl xs = elim (cases_Bool (pointwise nat_eq xs xs)) [
  | inl same ↦ same
  | inr other ↦ absurd (other_text xs xs (sym other) refl)
]

pub single_belongs : (p : Problem) (v : ℕ) → IsVertex p v → v ≢ p.depot → Belongs p (v ∷ [])
single_belongs p v vertex other = record {
  vertices = All-cons (IsVertex p) v [] vertex (All-nil (IsVertex p));
  no_depot = search arith;
}

tried_grows : (p : Problem) (pool after : List (List ℕ)) (v : ℕ) → IsTried p pool v after → (more : List (List ℕ)) × (after ≡ pool ++ more)
tried_grows p pool after v (one_more wanted is) = ((v ∷ []) ∷ [], is)
tried_grows p pool after v (as_before unwanted is) = ([], is ∙ sym (append-nil pool))

pub tried_belongs : (p : Problem) (pool after : List (List ℕ)) (v : ℕ) → IsVertex p v → IsTried p pool v after → All (Belongs p) pool → All (Belongs p) after
tried_belongs p pool after v vertex (one_more wanted is) all =
    subst (All (Belongs p)) (sym is)
    (All-append (Belongs p) pool ((v ∷ []) ∷ []) all (All-cons (Belongs p) (v ∷ []) [] (single_belongs p v vertex wanted.no_depot) (All-nil (Belongs p))))
tried_belongs p pool after v vertex (as_before unwanted is) all = subst (All (Belongs p)) (sym is) all

pub singles_grow : (p : Problem) (base : List (List ℕ)) (n : ℕ) (pool : List (List ℕ)) → HasSingles p base n pool → (more : List (List ℕ)) × (pool ≡ base ++ more)
singles_grow p base zero pool singles = ([], singles ∙ sym (append-nil base))
singles_grow p base (suc v) pool (before, singles, tried) =
    let first = singles_grow p base v before singles in
    let next = tried_grows p before pool (suc v) tried in
    (first.0 ++ next.0, next.1 ∙ ap (λ xs. xs ++ next.0) first.1 ∙ append_assoc base first.0 next.0)

-- whether the pool holds the shore can be decided
held : (pool : List (List ℕ)) (shore : List ℕ) → Holds pool shore ⊎ (¬ (Holds pool shore))
held pool shore = elim (cases_Bool (list_any (pointwise nat_eq shore) pool)) [
  | inl there ↦
      let found = Any-from_list_any (pointwise nat_eq shore) pool there in
      let same : get_or pool found.0 [] ≡ shore = get_or_default pool found.0 [] found.1 found.2 ∙ found.3 ∙ sym (same_text shore found.1 (sym found.4)) in
      inl (suc found.0, record { number = record { from_one = omega arith; in_range = omega (arith, found.2) }; same = same })
  | inr none ↦ inr (none_held pool shore none)
] where
  none_held : (xs : List (List ℕ)) (x : List ℕ) → list_any (pointwise nat_eq x) xs ≡ false → ¬ (Holds xs x)
  none_held xs x none (zero, is) = omega (arith, is.number.from_one)
  none_held xs x none (suc k, is) =
      absurd (false≢true (sym none ∙ list_any_at (pointwise nat_eq x) xs k [] (omega (arith, is.number.in_range)) (ap (pointwise nat_eq x) is.same ∙ pointwise_refl x)))

pub tried_by_add : (p : Problem) (pool after : List (List ℕ)) (v : ℕ) (shore : List ℕ) → shore ≡ v ∷ [] → v ≢ p.depot → 0 < need p (is_in shore) → length pool < 2000 →
    (Holds pool shore → after ≡ pool) → (¬ (Holds pool shore) → after ≡ pool ++ shore ∷ []) → IsTried p pool v after
tried_by_add p pool after v shore is other needed room old new = elim (held pool shore) [
  | inl there ↦ as_before (λ wanted. wanted.new (subst (Holds pool) is there)) (old there)
  | inr none ↦
      one_more (record { no_depot = other; needed = subst (λ (s : List ℕ). 0 < need p (is_in s)) is needed; room = room; new = subst (λ (s : List ℕ). ¬ (Holds pool s)) is none })
      (subst (λ (s : List ℕ). after ≡ pool ++ s ∷ []) is (new none))
]

-- a step of the loop
pub one_vertex_more : (p : Problem) (base pool after : List (List ℕ)) (v : ℕ) → 1 ≤ v → HasSingles p base (v - 1) pool → IsTried p pool v after → HasSingles p base (v + 1 - 1) after
one_vertex_more p base pool after zero some singles tried = absurd (omega (arith, some))
one_vertex_more p base pool after (suc v) some singles tried =
    let back : suc v - 1 ≡ v = omega arith in
    let here : suc v + 1 - 1 ≡ suc v = omega arith in
    subst (λ n. HasSingles p base n after) (sym here) (pool, subst (λ n. HasSingles p base n pool) back singles, tried)
