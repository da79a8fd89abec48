-- Sums over the numbers 1 to m.
use Rattle.std.proofs.Common.{◌≡◌, ℕ, zero, suc, ◌+◌, ◌*◌, ◌≤◌, ◌<◌, cond, refl, sym, ap, arith, eqb, inl, inr, ◌⊎◌, Bool, true, false}
use Rattle.std.proofs.lemmas.Bool.{cases_eq, ne_eqb, eq-eqb}
use Rattle.plan_model.specs.Sums.{sum_to}

pub sum_to-zero : (m : ℕ) → sum_to m (λ _. 0) ≡ 0
sum_to-zero zero = refl
sum_to-zero (suc m) = omega (arith, sum_to-zero m)

pub sum_to-one : (m : ℕ) → sum_to m (λ _. 1) ≡ m
sum_to-one zero = refl
sum_to-one (suc m) = omega (arith, sum_to-one m)

pub sum_to-add : (m : ℕ) (f g : ℕ → ℕ) → sum_to m (λ e. f e + g e) ≡ sum_to m f + sum_to m g
sum_to-add zero f g = refl
sum_to-add (suc m) f g = omega (arith, sum_to-add m f g)

pub sum_to-times : (m c : ℕ) (f : ℕ → ℕ) → sum_to m (λ e. c * f e) ≡ c * sum_to m f
sum_to-times zero c f = omega arith
sum_to-times (suc m) c f = omega (arith, sum_to-times m c f)

pub sum_to-same : (m : ℕ) (f g : ℕ → ℕ) → ((e : ℕ) → 1 ≤ e → e ≤ m → f e ≡ g e) → sum_to m f ≡ sum_to m g
sum_to-same zero f g same = refl
sum_to-same (suc m) f g same = omega (arith, sum_to-same m f g (λ e one below. same e one (omega arith)), same (suc m) (omega arith) (omega arith))

pub sum_to-more : (m : ℕ) (f g : ℕ → ℕ) → ((e : ℕ) → 1 ≤ e → e ≤ m → f e ≤ g e) → sum_to m f ≤ sum_to m g
sum_to-more zero f g more = omega arith
sum_to-more (suc m) f g more = omega (arith, sum_to-more m f g (λ e one below. more e one (omega arith)), more (suc m) (omega arith) (omega arith))

pub sum_to-most : (m c : ℕ) (f : ℕ → ℕ) → ((e : ℕ) → 1 ≤ e → e ≤ m → f e ≤ c) → sum_to m f ≤ c * m
sum_to-most zero c f each = omega arith
sum_to-most (suc m) c f each = omega (arith, sum_to-most m c f (λ e one below. each e one (omega arith)), each (suc m) (omega arith) (omega arith))

-- a term is no more than the sum, and two are not
pub sum_to-term : (m e : ℕ) (f : ℕ → ℕ) → 1 ≤ e → e ≤ m → f e ≤ sum_to m f
sum_to-term zero e f one below = absurd (omega arith)
sum_to-term (suc m) e f one below = elim (cases_eq e (suc m)) [
  | inl is ↦ rw is (omega arith)
  | inr other ↦ omega (arith, sum_to-term m e f one (omega (arith, other)))
]

pub sum_to-two : (m d e : ℕ) (f : ℕ → ℕ) → 1 ≤ d → d < e → e ≤ m → f d + f e ≤ sum_to m f
sum_to-two zero d e f one less below = absurd (omega arith)
sum_to-two (suc m) d e f one less below = elim (cases_eq e (suc m)) [
  | inl is ↦ rw is (omega (arith, sum_to-term m d f one (omega (arith, is, less))))
  | inr other ↦ omega (arith, sum_to-two m d e f one less (omega (arith, other)))
]

-- the term at one number alone
pub sum_to-single : (m e : ℕ) (g : ℕ → ℕ) → 1 ≤ e → e ≤ m → sum_to m (λ i. cond (eqb e i) (g i) 0) ≡ g e
sum_to-single zero e g one below = absurd (omega arith)
sum_to-single (suc m) e g one below = elim (cases_eq e (suc m)) [
  | inl is ↦ rw (sum_to-same m (λ i. cond (eqb e i) (g i) 0) (λ _. 0) (λ i _ low. ap (λ b. cond b (g i) 0) (ne_eqb e i (λ same. omega arith))), sum_to-zero, eq-eqb e (suc m) is, is) (omega arith)
  | inr other ↦ rw (sum_to-single m e g one (omega arith), ne_eqb e (suc m) other) (omega arith)
]

-- sums of sums may change places
pub sum_to-swap : (m n : ℕ) (h : ℕ → ℕ → ℕ) → sum_to m (λ i. sum_to n (h i)) ≡ sum_to n (λ j. sum_to m (λ i. h i j))
sum_to-swap zero n h = sym (sum_to-zero n)
sum_to-swap (suc m) n h = omega (arith, sum_to-swap m n h, sum_to-add n (λ j. sum_to m (λ i. h i j)) (h (suc m)))

-- terms that are nothing or at least s sum to nothing or at least s
pub all_or_nothing : (m s : ℕ) (f : ℕ → ℕ) → ((e : ℕ) → (f e ≡ 0) ⊎ (s ≤ f e)) → sum_to m f < s → sum_to m f ≡ 0
all_or_nothing zero s f each less = refl
all_or_nothing (suc m) s f each less = elim (each (suc m)) [
  | inl none ↦ omega (arith, none, all_or_nothing m s f each (omega (arith, less)))
  | inr some ↦ absurd (omega (arith, some, less))
]

-- at most one number passes
pub at_most_one : (m : ℕ) (t : ℕ → Bool) → ((d e : ℕ) → 1 ≤ d → d < e → e ≤ m → t d ≡ true → t e ≡ true → ⊥) → sum_to m (λ e. cond (t e) 1 0) ≤ 1
at_most_one zero t apart = omega arith
at_most_one (suc m) t apart = last (at_most_one m t (λ d e one less below. apart d e one less (omega arith))) (t (suc m)) refl
  where
    none : (e : ℕ) → t (suc m) ≡ true → 1 ≤ e → e ≤ m → (b : Bool) → t e ≡ b → ◌≡◌ {A = ℕ} (cond b 1 0) 0
    none e is one below true passes = absurd (apart e (suc m) one (omega arith) (omega arith) passes is)
    none e is one below false passes = refl

    last : sum_to m (λ e. cond (t e) 1 0) ≤ 1 → (b : Bool) → t (suc m) ≡ b → sum_to m (λ e. cond (t e) 1 0) + cond b 1 0 ≤ 1
    last before true is = omega (arith, sum_to-same m (λ e. cond (t e) 1 0) (λ _. 0) (λ e one below. none e is one below (t e) refl), sum_to-zero m)
    last before false is = omega (arith, before)
