-- The odd vertices in rising order: they are different, just the odd ones, and even in number.
use Rattle.std.proofs.Common.{◌≡◌, ℕ, zero, suc, ◌+◌, ◌%◌, ◌<◌, ◌≤◌, ◌==◌, Bool, true, false, cond, List, [], ◌∷◌, length, get_or, refl, sym, ◌∙◌, subst, arith, eq-eqb, inl, inr}
use Rattle.std.specs.Prelude.{if◌then◌else◌}
use Rattle.std.specs.List.{count_by}
use Rattle.std.specs.List.Sorted.{IsStrictlyIncreasing}
use Rattle.std.proofs.lemmas.Bool.{cases_order, eqb-true, eqb-false, cases_lt}
use Rattle.std.proofs.lemmas.List.{get_or_default, length-append}
use Rattle.std.proofs.lemmas.List.Folds.{Any-from_list_any, list_any_at}
use Rattle.std.proofs.lemmas.List.Sums.{sum_by-cons}
use Rattle.carp_base.specs.declared.edge.Edge.{Edge}
use Rattle.carp_base.specs.Problem.{Problem, IsValid, IsVertex, required_edges}
use Rattle.plan_model.specs.Plans.{crosses}
use Rattle.plan_model.specs.Sums.{sum_to}
use Rattle.edge_components.specs.Listing.{vertices_where}
use Rattle.edge_components.specs.Laws.{VerticesAreListed}
use Rattle.matching_duals.specs.OddSets.{degree, is_odd}
use Rattle.matching_duals.proofs.Sums.{sum_to-parity}
use Rattle.matching_duals.proofs.Parity.{part, degrees_sum}

pub record OddPlaces (p : Problem) (odd : List ℕ) : Type 0 where
  pub vertex : (k : ℕ) → k < length odd → IsVertex p (get_or odd k 0)
  pub odd_at : (k : ℕ) → k < length odd → is_odd p (get_or odd k 0) ≡ true
  pub rising : (i j : ℕ) → i < j → j < length odd → get_or odd i 0 < get_or odd j 0
  pub found : (v : ℕ) → IsVertex p v → is_odd p v ≡ true → (k : ℕ) × (k < length odd) × (get_or odd k 0 ≡ v)
  pub few : length odd ≤ p.vertices
  pub even : length odd % 2 ≡ 0

-- two places of one vertex are one
pub same_place : (p : Problem) (odd : List ℕ) (i j : ℕ) → OddPlaces p odd → i < length odd → j < length odd → get_or odd i 0 ≡ get_or odd j 0 → i ≡ j
same_place p odd i j places i_in j_in same = elim (cases_order i j) [
  | inl is ↦ is
  | inr other ↦ elim other [
    | inl less ↦ absurd (omega (arith, places.rising i j less j_in, same))
    | inr more ↦ absurd (omega (arith, places.rising j i more i_in, same))
  ]
]

increasing : (xs : List ℕ) (i j : ℕ) → IsStrictlyIncreasing xs → i < j → j < length xs → get_or xs i 0 < get_or xs j 0
increasing xs i zero up less below = absurd (omega (arith, less))
increasing xs i (suc j) up less below =
    let e : j + 1 ≡ suc j = omega arith in
    let last : get_or xs j 0 < get_or xs (suc j) 0 = subst (λ k. get_or xs j 0 < get_or xs k 0) e (up j (omega (arith, below))) in
    elim (cases_lt i j) [
      | inl before ↦ omega (arith, increasing xs i j up before (omega (arith, below)), last)
      | inr at ↦ let same : j ≡ i = omega (arith, at, less) in subst (λ k. get_or xs k 0 < get_or xs (suc j) 0) same last
    ]

length_where : (f : ℕ → Bool) (n : ℕ) → length (vertices_where f n) ≡ sum_to n (λ v. part (f v) 1)
length_where f zero = refl
length_where f (suc n) = omega (arith, length-append (vertices_where f n) (if f (suc n) then suc n ∷ [] else []), one (f (suc n)), length_where f n)
  where
    one : (b : Bool) → length (if b then suc n ∷ [] else []) ≡ part b 1
    one true = refl
    one false = refl

bits_few : (f : ℕ → Bool) (n : ℕ) → sum_to n (λ v. part (f v) 1) ≤ n
bits_few f zero = omega arith
bits_few f (suc n) = omega (arith, bits_few f n, one (f (suc n)))
  where
    one : (b : Bool) → part b 1 ≤ 1
    one true = omega arith
    one false = omega arith

none_leave : (edges : List Edge) → count_by (crosses (λ v. true)) edges ≡ 0
none_leave [] = refl
none_leave (x ∷ edges) = omega (arith, none_leave edges, sum_by-cons (λ y. cond (crosses (λ v. true) y) 1 0) x edges)

bit_parity : (n : ℕ) → (b : Bool) → (n % 2 == 1) ≡ b → part b 1 % 2 ≡ n % 2
bit_parity n true is = sym (eqb-true (n % 2) 1 is)
bit_parity n false is = omega (arith, eqb-false (n % 2) 1 is)

-- the degrees sum to twice the number of required edges
odd_are_even : (p : Problem) → IsValid p → sum_to p.vertices (λ v. part (is_odd p v) 1) % 2 ≡ 0
odd_are_even p valid =
    omega (
      arith,
      degrees_sum p (λ v. true) valid,
      none_leave (required_edges p),
      sum_to-parity p.vertices (λ v. part (is_odd p v) 1) (λ v. part true (degree p v)) (λ v _ _. bit_parity (degree p v) (is_odd p v) refl),
    )

abbrev odd_list : Problem → List ℕ
odd_list p = vertices_where (is_odd p) p.vertices

pub odd_places : VerticesAreListed → (p : Problem) (odd : List ℕ) → IsValid p → odd ≡ odd_list p → OddPlaces p odd
odd_places listed p odd valid is = subst (OddPlaces p) (sym is) (record {
  vertex = λ k below. (listed p (is_odd p)).within k 0 below;
  odd_at = λ k below.
      sym ((listed p (is_odd p)).same (get_or (odd_list p) k 0) ((listed p (is_odd p)).within k 0 below))
      ∙ list_any_at (λ x. x == get_or (odd_list p) k 0) (odd_list p) k 0 below (eq-eqb (get_or (odd_list p) k 0) (get_or (odd_list p) k 0) refl);
  rising = λ i j less below. increasing (odd_list p) i j (listed p (is_odd p)).rising less below;
  found = λ v vertex odd_v.
      let found = Any-from_list_any (λ x. x == v) (odd_list p) ((listed p (is_odd p)).same v vertex ∙ odd_v) in
      (found.0, found.2, get_or_default (odd_list p) found.0 0 found.1 found.2 ∙ found.3 ∙ eqb-true found.1 v found.4);
  few = omega (arith, length_where (is_odd p) p.vertices, bits_few (is_odd p) p.vertices);
  even = omega (arith, length_where (is_odd p) p.vertices, odd_are_even p valid);
})
