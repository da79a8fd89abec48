-- Sums over numbers from 1.
use Rattle.std.proofs.Common.{◌≡◌, ℕ, zero, suc, ◌+◌, ◌%◌, ◌<◌, ◌≤◌, cond, refl, ap, arith, eqb, inl, inr, sym}
use Rattle.std.proofs.lemmas.Bool.{cases_eq, ne_eqb, eq-eqb}
use Rattle.plan_model.specs.Sums.{sum_to}

pub sum_to-zero : (m : ℕ) → sum_to m (λ _. 0) ≡ 0
sum_to-zero zero = refl
sum_to-zero (suc m) = omega (arith, sum_to-zero m)

pub sum_to-add : (m : ℕ) (f g : ℕ → ℕ) → sum_to m (λ e. f e + g e) ≡ sum_to m f + sum_to m g
sum_to-add zero f g = refl
sum_to-add (suc m) f g = omega (arith, sum_to-add m f g)

pub sum_to-same : (m : ℕ) (f g : ℕ → ℕ) → ((e : ℕ) → 1 ≤ e → e ≤ m → f e ≡ g e) → sum_to m f ≡ sum_to m g
sum_to-same zero f g same = refl
sum_to-same (suc m) f g same = omega (arith, sum_to-same m f g (λ e one below. same e one (omega arith)), same (suc m) (omega arith) (omega arith))

-- the term at one number alone
pub sum_to-single : (m e : ℕ) (g : ℕ → ℕ) → 1 ≤ e → e ≤ m → sum_to m (λ i. cond (eqb e i) (g i) 0) ≡ g e
sum_to-single zero e g one below = absurd (omega arith)
sum_to-single (suc m) e g one below = elim (cases_eq e (suc m)) [
  | inl is ↦ rw (sum_to-same m (λ i. cond (eqb e i) (g i) 0) (λ _. 0) (λ i _ low. ap (λ b. cond b (g i) 0) (ne_eqb e i (λ same. omega arith))), sum_to-zero, eq-eqb e (suc m) is, is) (omega arith)
  | inr other ↦ rw (sum_to-single m e g one (omega arith), ne_eqb e (suc m) other) (omega arith)
]

pub sum_to-first : (m : ℕ) (g : ℕ → ℕ) → sum_to (suc m) g ≡ g 1 + sum_to m (λ e. g (suc e))
sum_to-first zero g = omega arith
sum_to-first (suc m) g = omega (arith, sum_to-first m g)

pub sum_to-le : (m : ℕ) (f g : ℕ → ℕ) → ((e : ℕ) → 1 ≤ e → e ≤ m → f e ≤ g e) → sum_to m f ≤ sum_to m g
sum_to-le zero f g less = omega arith
sum_to-le (suc m) f g less = omega (arith, sum_to-le m f g (λ e one below. less e one (omega (arith, below))), less (suc m) (omega arith) (omega arith))

pub sum_to-less : (m v : ℕ) (f g : ℕ → ℕ) → ((e : ℕ) → 1 ≤ e → e ≤ m → f e ≤ g e) → 1 ≤ v → v ≤ m → f v < g v → sum_to m f < sum_to m g
sum_to-less zero v f g most one below less = absurd (omega (arith, one, below))
sum_to-less (suc m) v f g most one below less = elim (cases_eq v (suc m)) [
  | inl is ↦
      let last : f (suc m) < g (suc m) = rw (sym is) less in
      omega (arith, last, sum_to-le m f g (λ e from low. most e from (omega (arith, low))))
  | inr other ↦
      omega (
        arith,
        most (suc m) (omega arith) (omega arith),
        sum_to-less m v f g (λ e from low. most e from (omega (arith, low))) one (omega (arith, below, other)) less,
      )
]

-- terms alike modulo 2 have sums alike modulo 2
pub sum_to-parity : (n : ℕ) (f g : ℕ → ℕ) → ((v : ℕ) → 1 ≤ v → v ≤ n → f v % 2 ≡ g v % 2) → sum_to n f % 2 ≡ sum_to n g % 2
sum_to-parity zero f g same = refl
sum_to-parity (suc n) f g same = omega (arith, sum_to-parity n f g (λ v one below. same v one (omega (arith, below))), same (suc n) (omega arith) (omega arith))
