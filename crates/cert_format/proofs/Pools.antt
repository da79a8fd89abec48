-- Whether a pool holds a shore, and shores in rising order.
use Rattle.std.proofs.Common.{◌≡◌, ℕ, zero, suc, ◌+◌, ◌-◌, ◌<◌, ◌≤◌, List, [], ◌∷◌, length, get_or, map, ◌⊎◌, refl, ap, ◌∙◌, inl, inr, arith, slice_index}
use Rattle.std.proofs.lemmas.Bool.{cases_eq, cases_lt}
use Rattle.std.specs.List.Sorted.{IsStrictlyIncreasing}
use Rattle.std.proofs.lemmas.List.{length-map}
use Rattle.branch_rules.specs.declared.weight.Weight.{Weight}
use Rattle.cut_pool.specs.Pools.{Holds, IsHeldAs}

same_or_not : (xs ys : List ℕ) → (xs ≡ ys) ⊎ (xs ≡ ys → ⊥)
same_or_not [] [] = inl refl
same_or_not [] (y ∷ ys) = inr (λ e. cc)
same_or_not (x ∷ xs) [] = inr (λ e. cc)
same_or_not (x ∷ xs) (y ∷ ys) = elim (cases_eq x y) [
  | inr other ↦ inr (λ e. other (let same : x ≡ y = cc in same))
  | inl same ↦ elim (same_or_not xs ys) [
    | inl rest ↦ inl (ap (λ (k : ℕ). k ∷ xs) same ∙ ap (λ (k : List ℕ). y ∷ k) rest)
    | inr other ↦ inr (λ e. other (let rest : xs ≡ ys = cc in rest))
  ]
]

later : (p shore : List ℕ) (pool : List (List ℕ)) (i : ℕ) → IsHeldAs pool shore i → IsHeldAs (p ∷ pool) shore (suc i)
later p shore pool zero held = absurd (omega (arith, held.number.from_one))
later p shore pool (suc i) held = record { number = record { from_one = omega arith; in_range = omega (arith, held.number.in_range) }; same = held.same }

earlier : (p shore : List ℕ) (pool : List (List ℕ)) (i : ℕ) → (p ≡ shore → ⊥) → IsHeldAs (p ∷ pool) shore i → Holds pool shore
earlier p shore pool zero other held = absurd (omega (arith, held.number.from_one))
earlier p shore pool (suc zero) other held = absurd (other held.same)
earlier p shore pool (suc (suc i)) other held = (suc i, record { number = record { from_one = omega arith; in_range = omega (arith, held.number.in_range) }; same = held.same })

-- a pool holds a shore, or not
pub holds_or_not : (pool : List (List ℕ)) (shore : List ℕ) → Holds pool shore ⊎ (Holds pool shore → ⊥)
holds_or_not [] shore = inr (λ h. absurd (omega (arith, h.1.number.from_one, h.1.number.in_range)))
holds_or_not (p ∷ pool) shore = elim (same_or_not p shore) [
  | inl same ↦ inl (1, record { number = record { from_one = omega arith; in_range = omega arith }; same = same })
  | inr other ↦ elim (holds_or_not pool shore) [
    | inl h ↦ inl (suc h.0, later p shore pool h.0 h.1)
    | inr none ↦ inr (λ h. none (earlier p shore pool h.0 other h.1))
  ]
]

-- the number of a shore at a place
pub shore_of : (ws : List Weight) (k : ℕ) (d : Weight) → k < length ws → slice_index (map (λ w. w.shore) ws) k ≡ (get_or ws k d).shore
shore_of [] k d below = absurd (omega (arith, below))
shore_of (w ∷ ws) zero d below = refl
shore_of (w ∷ ws) (suc k) d below = shore_of ws k d (omega (arith, below))

pub not_rising : (ws : List Weight) (i : ℕ) (d : Weight) → 1 ≤ i → i < length ws → (get_or ws i d).shore ≤ (get_or ws (i - 1) d).shore → IsStrictlyIncreasing (map (λ w. w.shore) ws) → ⊥
not_rising ws i d some below falls rising =
    let same : i - 1 + 1 ≡ i = omega (arith, some) in
    let less = rising (i - 1) (omega (arith, some, below, length-map ws (λ w. w.shore))) in
    let at = shore_of ws (i - 1) d (omega (arith, below)) in
    let next : slice_index (map (λ w. w.shore) ws) (i - 1 + 1) ≡ (get_or ws i d).shore = ap (λ (k : ℕ). slice_index (map (λ w. w.shore) ws) k) same ∙ shore_of ws i d below in
    omega (arith, less, at, next, falls)

pub rises_turn : (ws : List Weight) (i : ℕ) (d : Weight) → 1 ≤ i → i < length ws → (get_or ws (i - 1) d).shore < (get_or ws i d).shore →
    ((k : ℕ) → k + 1 < i → slice_index (map (λ w. w.shore) ws) k < slice_index (map (λ w. w.shore) ws) (k + 1)) →
    (k : ℕ) → k + 1 < i + 1 → slice_index (map (λ w. w.shore) ws) k < slice_index (map (λ w. w.shore) ws) (k + 1)
rises_turn ws i d some below rises before k small = elim (cases_lt (k + 1) i) [
  | inl less ↦ before k less
  | inr last ↦
      (let same : k + 1 ≡ i = omega (arith, small, last) in
      let place : k ≡ i - 1 = omega (arith, same) in
      let at : slice_index (map (λ w. w.shore) ws) k ≡ (get_or ws (i - 1) d).shore = ap (λ (j : ℕ). slice_index (map (λ w. w.shore) ws) j) place ∙ shore_of ws (i - 1) d (omega (arith, below)) in
      let next : slice_index (map (λ w. w.shore) ws) (k + 1) ≡ (get_or ws i d).shore = ap (λ (j : ℕ). slice_index (map (λ w. w.shore) ws) j) same ∙ shore_of ws i d below in
      omega (arith, at, next, rises))
]
