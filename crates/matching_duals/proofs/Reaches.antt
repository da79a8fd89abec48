-- Rows of a table of distances.
use Rattle.std.proofs.Common.{◌≡◌, ℕ, ◌+◌, ◌*◌, ◌<◌, ◌≤◌, List, [], ◌∷◌, ◌++◌, length, get_or, sym, ap, ◌∙◌, subst, arith, inl, inr}
use Rattle.std.proofs.lemmas.Bool.{cases_lt}
use Rattle.std.proofs.lemmas.List.{get_or_append_left, get_or_push, get_or_past, length_push}
use Rattle.std.proofs.Math.Nat.{mul-le-mul_right}
use Rattle.carp_base.specs.Problem.{Problem, IsVertex}
use Rattle.matching_duals.specs.Paths.{AddsRow, IsReach, far, reach}

-- a row as far as a vertex
pub record RowTo (p : Problem) (x : ℕ) (before : List ℕ) (v : ℕ) (now : List ℕ) : Type 0 where
  pub long : length now ≡ length before + v
  pub kept : (k : ℕ) → k < length before → get_or now k 0 ≡ get_or before k 0
  pub each : (w : ℕ) → IsVertex p w → w < v → IsReach p w x (get_or now (length before + w) 0)
  pub small : (k : ℕ) → get_or now k 0 ≤ far

small_push : (now : List ℕ) (n : ℕ) → ((k : ℕ) → get_or now k 0 ≤ far) → n ≤ far → (k : ℕ) → get_or (now ++ n ∷ []) k 0 ≤ far
small_push now n small least k = elim (cases_lt k (length now)) [
  | inl before ↦ omega (arith, get_or_append_left now (n ∷ []) 0 k before, small k)
  | inr after ↦ elim (cases_lt (length now) k) [
    | inl past ↦ omega (arith, get_or_past (now ++ n ∷ []) k 0 (omega (arith, past, length_push now n)))
    | inr at ↦ omega (arith, get_or_push now n 0 k (omega (arith, after, at)), least)
  ]
]

pub row_more : (p : Problem) (x : ℕ) (before now : List ℕ) (v n : ℕ) → RowTo p x before v now → IsReach p v x n → n ≤ far → RowTo p x before (v + 1) (now ++ n ∷ [])
row_more p x before now v n row is least = record {
  long = omega (arith, row.long, length_push now n);
  kept = λ k below. get_or_append_left now (n ∷ []) 0 k (omega (arith, below, row.long)) ∙ row.kept k below;
  each = λ w vertex less. elim (cases_lt w v) [
    | inl old ↦ subst (IsReach p w x) (sym (get_or_append_left now (n ∷ []) 0 (length before + w) (omega (arith, row.long, old)))) (row.each w vertex old)
    | inr last ↦
        let same : v ≡ w = omega (arith, last, less) in
        subst (IsReach p w x) (sym (get_or_push now n 0 (length before + w) (omega (arith, row.long, same)))) (subst (λ u. IsReach p u x n) same is)
  ];
  small = small_push now n row.small least;
}

-- a table as far as a row
pub record TableTo (p : Problem) (x : ℕ) (table : List ℕ) : Type 0 where
  pub long : length table ≡ x * (p.vertices + 1)
  pub each : (v w : ℕ) → IsVertex p v → IsVertex p w → w < x → IsReach p v w (reach p table v w)
  pub small : (k : ℕ) → get_or table k 0 ≤ far

pub table_more : (p : Problem) (x : ℕ) (table now : List ℕ) → TableTo p x table → AddsRow p x table now → TableTo p (x + 1) now
table_more p x table now is row = record {
  long = omega (arith, is.long, row.long);
  each = λ v w v_in w_in less. elim (cases_lt w x) [
    | inl old ↦
        let room : (w + 1) * (p.vertices + 1) ≤ x * (p.vertices + 1) = mul-le-mul_right (p.vertices + 1) (omega (arith, old)) in
        subst (IsReach p v w) (sym (row.kept (w * (p.vertices + 1) + v) (omega (arith, room, is.long, v_in.in_range)))) (is.each v w v_in w_in old)
    | inr last ↦
        let same : x ≡ w = omega (arith, last, less) in
        let place : length table + v ≡ w * (p.vertices + 1) + v = is_long w same v in
        subst (λ k. IsReach p v w (get_or now k 0)) place (subst (λ u. IsReach p v u (get_or now (length table + v) 0)) same (row.each v v_in))
  ];
  small = row.small;
}
  where
    is_long : (w : ℕ) → x ≡ w → (v : ℕ) → length table + v ≡ w * (p.vertices + 1) + v
    is_long w same v = ap (λ n. n + v) (is.long ∙ ap (λ u. u * (p.vertices + 1)) same)
