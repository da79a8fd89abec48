-- Rising lists, and the marks of their vertices.
use Rattle.std.proofs.Common.{◌≡◌, ◌≢◌, ℕ, zero, suc, ◌+◌, ◌-◌, ◌<◌, ◌≤◌, ◌==◌, ◌||◌, Bool, true, false, List, [], ◌∷◌, length, get_or, set, refl, take, sym, ap, ◌∙◌, arith, add-one, inl, inr}
use Rattle.std.specs.Prelude.{IsTrue, nat_le}
use Rattle.std.specs.List.{All}
use Rattle.std.specs.List.Sorted.{IsStrictlyIncreasing}
use Rattle.std.proofs.lemmas.Bool.{cases_eq, cases_lt, ne_eqb, eq-eqb, leb-true, le-leb}
use Rattle.std.proofs.lemmas.List.{get_or-set_other, get_or_default}
use Rattle.std.proofs.lemmas.Grind.{get_or-set_at}
use Rattle.std.proofs.lemmas.List.Folds.{list_any_more}
use Rattle.carp_base.specs.Problem.{Problem, IsVertex}
use Rattle.cut_pool.specs.Shores.{IsShore, is_in}

pub rises : (xs : List ℕ) → IsStrictlyIncreasing xs → (i j : ℕ) → i ≤ j → j < length xs → get_or xs i 0 ≤ get_or xs j 0
rises xs rising i zero most below = let same : i ≡ 0 = omega (arith, most) in rw same (omega arith)
rises xs rising i (suc j) most below = elim (cases_lt i (suc j)) [
  | inl less ↦
      let step : get_or xs j 0 < get_or xs (suc j) 0 = rw add-one at (rising j (omega (arith, below))) in
      omega (arith, rises xs rising i j (omega (arith, less)) (omega (arith, below)), step)
  | inr last ↦ let same : i ≡ suc j = omega (arith, most, last) in rw same (omega arith)
]

some_length : (xs : List ℕ) → xs ≢ [] → 0 < length xs
some_length [] some = absurd (some refl)
some_length (x ∷ xs) some = omega arith

-- each vertex of a rising list is in the instance where the first and the last are
pub vertices_between : (p : Problem) (xs : List ℕ) (last n : ℕ) → IsShore xs → last ≡ get_or xs (length xs - 1) 0 → n ≡ p.vertices → 1 ≤ get_or xs 0 0 →
    (IsTrue (nat_le last n) → All (IsVertex p) xs) × (All (IsVertex p) xs → IsTrue (nat_le last n))
vertices_between p xs last n shore last_is n_is first = (
  λ below i d here.
      let same = get_or_default xs i d 0 here in
      let less = leb-true last n below in
      record {
        from_one = omega (arith, first, rises xs shore.rising 0 i (omega arith) here, same);
        in_range = omega (arith, less, last_is, n_is, rises xs shore.rising i (length xs - 1) (omega (arith, here)) (omega (arith, here)), same);
      },
  λ each. le-leb last n (omega (arith, last_is, n_is, (each (length xs - 1) 0 (omega (arith, some_length xs shore.some))).in_range)),
)

or_true : (b : Bool) → (b || true) ≡ true
or_true true = refl
or_true false = refl

or_false : (b : Bool) → (b || false) ≡ b
or_false true = refl
or_false false = refl

-- one vertex more is marked
pub mark_more : (xs : List ℕ) (marks : List Bool) (i : ℕ) → i < length xs → get_or xs i 0 < length marks →
    ((v : ℕ) → get_or marks v false ≡ is_in (take i xs) v) → (v : ℕ) → get_or (set marks (get_or xs i 0) true) v false ≡ is_in (take (i + 1) xs) v
mark_more xs marks i below room are v =
    let more = list_any_more (λ x. x == v) xs i 0 below in
    elim (cases_eq (get_or xs i 0) v) [
      | inl same ↦
          get_or-set_at marks (get_or xs i 0) v true false (sym same) room
          ∙ sym (more ∙ ap (λ b. is_in (take i xs) v || b) (eq-eqb (get_or xs i 0) v same) ∙ or_true (is_in (take i xs) v))
      | inr other ↦
          get_or-set_other marks (get_or xs i 0) v true false (λ same. other (sym same))
          ∙ are v ∙ sym (more ∙ ap (λ b. is_in (take i xs) v || b) (ne_eqb (get_or xs i 0) v other) ∙ or_false (is_in (take i xs) v))
    ]
