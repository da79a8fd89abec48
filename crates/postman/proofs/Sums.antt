-- Sums over numbers from 1.
use Rattle.std.proofs.Common.{◌≡◌, ◌≢◌, ℕ, zero, suc, ◌+◌, ◌*◌, ◌≤◌, cond, refl, sym, ap, ◌∙◌, arith, add-one, eqb, inl, inr, take, get_or, length}
use Rattle.std.specs.Prelude.{if◌then◌else◌, nat_le}
use Rattle.std.specs.List.{sum_by}
use Rattle.std.proofs.lemmas.Bool.{cases_eq, ne_eqb, eq-eqb, le-leb, lt-leb}
use Rattle.std.proofs.lemmas.List.Sums.{sum_by_more}
use Rattle.carp_base.specs.declared.edge.Edge.{Edge}
use Rattle.carp_base.specs.Problem.{Problem, edge_at, no_edge}
use Rattle.plan_model.specs.Sums.{sum_to}

pub sum_to-zero : (m : ℕ) → sum_to m (λ _. 0) ≡ 0
sum_to-zero zero = refl
sum_to-zero (suc m) = omega (arith, sum_to-zero m)

pub sum_to-add : (m : ℕ) (f g : ℕ → ℕ) → sum_to m (λ e. f e + g e) ≡ sum_to m f + sum_to m g
sum_to-add zero f g = refl
sum_to-add (suc m) f g = omega (arith, sum_to-add m f g)

pub sum_to-same : (m : ℕ) (f g : ℕ → ℕ) → ((e : ℕ) → 1 ≤ e → e ≤ m → f e ≡ g e) → sum_to m f ≡ sum_to m g
sum_to-same zero f g same = refl
sum_to-same (suc m) f g same = omega (arith, sum_to-same m f g (λ e one below. same e one (omega arith)), same (suc m) (omega arith) (omega arith))

pub sum_to-most : (m n : ℕ) (f : ℕ → ℕ) → ((e : ℕ) → 1 ≤ e → e ≤ m → f e ≤ n) → sum_to m f ≤ m * n
sum_to-most zero n f most = omega arith
sum_to-most (suc m) n f most = omega (arith, sum_to-most m n f (λ e one below. most e one (omega (arith, below))), most (suc m) (omega arith) (omega arith))

-- the term at one number alone
pub sum_to-single : (m e : ℕ) (g : ℕ → ℕ) → 1 ≤ e → e ≤ m → sum_to m (λ i. cond (eqb e i) (g i) 0) ≡ g e
sum_to-single zero e g one below = absurd (omega arith)
sum_to-single (suc m) e g one below = elim (cases_eq e (suc m)) [
  | inl is ↦ rw (sum_to-same m (λ i. cond (eqb e i) (g i) 0) (λ _. 0) (λ i _ low. ap (λ b. cond b (g i) 0) (ne_eqb e i (λ same. omega arith))), sum_to-zero, eq-eqb e (suc m) is, is) (omega arith)
  | inr other ↦ rw (sum_to-single m e g one (omega arith), ne_eqb e (suc m) other) (omega arith)
]

-- of numbers that are 0 but for one, which is at most 1
pub sum_to-one : (m e : ℕ) (g : ℕ → ℕ) → ((i : ℕ) → g i ≤ 1) → ((i : ℕ) → i ≢ e → g i ≡ 0) → sum_to m g ≤ 1
sum_to-one zero e g one none = omega arith
sum_to-one (suc m) e g one none = elim (cases_eq (suc m) e) [
  | inl is ↦ omega (arith, sum_to-same m g (λ _. 0) (λ i _ low. none i (λ same. omega (arith, same, is, low))), sum_to-zero m, one (suc m))
  | inr other ↦ omega (arith, sum_to-one m e g one none, none (suc m) other)
]

-- terms that differ at one number alone
pub sum_to-at : (m e : ℕ) (f g : ℕ → ℕ) → ((i : ℕ) → i ≢ e → f i ≡ g i) → 1 ≤ e → e ≤ m → sum_to m f + g e ≡ sum_to m g + f e
sum_to-at zero e f g same one below = absurd (omega (arith, one, below))
sum_to-at (suc m) e f g same one below = elim (cases_eq e (suc m)) [
  | inl is ↦ omega (arith, sum_to-same m f g (λ i _ low. same i (λ eq. omega (arith, eq, is, low))), ap f is, ap g is)
  | inr other ↦ omega (arith, sum_to-at m e f g same one (omega (arith, below, other)), same (suc m) (λ eq. other (sym eq)))
]

-- the terms of the first numbers alone
pub sum_to-front : (n m : ℕ) (g : ℕ → ℕ) → m ≤ n → sum_to n (λ e. if nat_le e m then g e else 0) ≡ sum_to m g
sum_to-front zero zero g short = refl
sum_to-front zero (suc m) g short = absurd (omega (arith, short))
sum_to-front (suc n) m g short = elim (cases_eq m (suc n)) [
  | inl is ↦
      sum_to-same (suc n) (λ e. if nat_le e m then g e else 0) g (λ e _ below. ap (λ b. if b then g e else 0) (le-leb e m (omega (arith, below, is))))
      ∙ ap (λ k. sum_to k g) (sym is)
  | inr other ↦
      omega (
        arith,
        sum_to-front n m g (omega (arith, short, other)),
        ap {B = ℕ} (λ b. if b then g (suc n) else 0) (lt-leb (suc n) m (omega (arith, short, other))),
      )
]

-- the first m edges, one by one
pub sum_to-edge_at : (p : Problem) (f : Edge → ℕ) (m : ℕ) → m ≤ length p.edges → sum_to m (λ e. f (edge_at p e)) ≡ sum_by f (take m p.edges)
sum_to-edge_at p f zero short = refl
sum_to-edge_at p f (suc m) short =
    let more = rw add-one at (sum_by_more f p.edges m no_edge (omega arith)) in
    ap (λ n. n + f (get_or p.edges m no_edge)) (sum_to-edge_at p f m (omega arith)) ∙ sym more
