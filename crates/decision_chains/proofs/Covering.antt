-- Different edges that all stand in a list sum to no more than the list.
use Rattle.std.proofs.Common.{◌≡◌, ℕ, ◌≤◌, ◌==◌, false, cond, List, [], ◌∷◌, ◌++◌, sym, ap, arith, inl, inr}
use Rattle.std.specs.List.{AllByRecursion, sum_by, list_any}
use Rattle.std.proofs.lemmas.List.Sums.{sum_by-cons, sum_by-append}
use Rattle.std.proofs.lemmas.Bool.{or_parts, cases_eq, ne_eqb, eqb-false, not-true}
use Rattle.decision_chains.specs.Neighbours.{times}
use Rattle.decision_chains.specs.Exclusions.{AreDistinct}
use Rattle.decision_chains.proofs.Times.{times-cons, times-append}

split_at : (e : ℕ) (fs : List ℕ) → 1 ≤ times e fs → (before after : List ℕ) × (fs ≡ before ++ e ∷ after)
split_at e [] some = absurd (omega arith)
split_at e (f ∷ fs) some = elim (cases_eq f e) [
  | inl is ↦ ([], fs, ap (λ x. x ∷ fs) is)
  | inr other ↦
      let found = split_at e fs (omega (arith, times-cons e f fs, ap {B = ℕ} (λ b. cond b 1 0) (ne_eqb f e other))) in
      (f ∷ found.0, found.1, ap (λ xs. f ∷ xs) found.2)
]

-- those of the others are still there when one is taken out
still_there : (e : ℕ) (fs before after es : List ℕ) → fs ≡ before ++ e ∷ after → list_any (λ x. x == e) es ≡ false → AllByRecursion (λ x. 1 ≤ times x fs) es →
    AllByRecursion (λ x. 1 ≤ times x (before ++ after)) es
still_there e fs before after [] split apart all = tt
still_there e fs before after (x ∷ es) split apart all =
    let parts = or_parts (x == e) (list_any (λ y. y == e) es) apart in
    let other : (e == x) ≡ false = ne_eqb e x (λ same. eqb-false x e parts.0 (sym same)) in (
      omega (arith, all.0, ap (times x) split, times-append x before (e ∷ after), times-append x before after, times-cons x e after, ap {B = ℕ} (λ b. cond b 1 0) other),
      still_there e fs before after es split parts.1 all.1,
    )

pub covered : (f : ℕ → ℕ) (es fs : List ℕ) → AreDistinct es → AllByRecursion (λ e. 1 ≤ times e fs) es → sum_by f es ≤ sum_by f fs
covered f [] fs distinct all = omega arith
covered f (e ∷ es) fs distinct all =
    let found = split_at e fs all.0 in
    let rest = covered f es (found.0 ++ found.1) distinct.1 (still_there e fs found.0 found.1 es found.2 (not-true _ distinct.0) all.1) in
    omega (arith, rest, sum_by-cons f e es, ap (sum_by f) found.2, sum_by-append f found.0 (e ∷ found.1), sum_by-cons f e found.1, sum_by-append f found.0 found.1)
