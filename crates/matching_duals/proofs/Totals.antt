-- Sums over numbers from 0.
use Rattle.std.proofs.Common.{◌≡◌, ℕ, zero, suc, ◌+◌, ◌*◌, ◌<◌, ◌≤◌, ◌==◌, refl, ap, arith, inl, inr}
use Rattle.std.proofs.lemmas.Bool.{cases_eq, eq-eqb, ne_eqb}
use Rattle.blossom_match.specs.Matching.{total}
use Rattle.matching_duals.proofs.Parity.{part}

pub total-same : (n : ℕ) (f g : ℕ → ℕ) → ((k : ℕ) → k < n → f k ≡ g k) → total n f ≡ total n g
total-same zero f g same = refl
total-same (suc n) f g same = omega (arith, total-same n f g (λ k below. same k (omega (arith, below))), same n (omega arith))

pub total-add : (n : ℕ) (f g : ℕ → ℕ) → total n (λ k. f k + g k) ≡ total n f + total n g
total-add zero f g = refl
total-add (suc n) f g = omega (arith, total-add n f g)

pub total-zero : (n : ℕ) → total n (λ k. 0) ≡ 0
total-zero zero = refl
total-zero (suc n) = omega (arith, total-zero n)

pub total-le : (n : ℕ) (f g : ℕ → ℕ) → ((k : ℕ) → k < n → f k ≤ g k) → total n f ≤ total n g
total-le zero f g less = omega arith
total-le (suc n) f g less = omega (arith, total-le n f g (λ k below. less k (omega (arith, below))), less n (omega arith))

pub total-const : (n m : ℕ) → total n (λ k. m) ≡ n * m
total-const zero m = omega arith
total-const (suc n) m = omega (arith, total-const n m)

-- fewer terms
pub total-fewer : (i n : ℕ) (f : ℕ → ℕ) → i ≤ n → total i f ≤ total n f
total-fewer i zero f most = let e : i ≡ 0 = omega (arith, most) in omega (arith, ap (λ k. total k f) e)
total-fewer i (suc n) f most = elim (cases_eq i (suc n)) [
  | inl same ↦ omega (arith, ap (λ k. total k f) same)
  | inr other ↦ omega (arith, total-fewer i n f (omega (arith, most, other)))
]

-- the term at one number alone
pub total-single : (n a : ℕ) (g : ℕ → ℕ) → a < n → total n (λ k. part (k == a) (g k)) ≡ g a
total-single zero a g below = absurd (omega (arith, below))
total-single (suc n) a g below = elim (cases_eq n a) [
  | inl is ↦
      omega (
        arith,
        total-same n (λ k. part (k == a) (g k)) (λ k. 0) (λ k less. ap (λ b. part b (g k)) (ne_eqb k a (λ same. omega (arith, same, is, less)))),
        total-zero n,
        ap (λ b. part b (g n)) (eq-eqb n a is),
        ap g is,
      )
  | inr other ↦ omega (arith, total-single n a g (omega (arith, below, other)), ap (λ b. part b (g n)) (ne_eqb n a other))
]
