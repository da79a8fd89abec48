-- A draft with one set or one shore less to come.
use Rattle.std.proofs.Common.{◌≡◌, ℕ, zero, suc, ◌+◌, ◌-◌, ◌≤◌, List, [], ◌∷◌, ◌++◌, length, length-append, sym, ap, subst, ◌∙◌, arith}
use Rattle.cert_lines.specs.declared.next.Next.{Next}
use Rattle.cert_lines.specs.declared.next.Next.TheVariants as stands
use Rattle.branch_rules.specs.Prices.{Prices}
use Rattle.cert_lines.specs.Order.{sets_to_come, shores_to_come}
use Rattle.cert_format.specs.declared.draft.Draft.{Draft}
use Rattle.cert_format.specs.Drafts.{IsBounded, Bounds, HasSet, to_come}

-- the bounds behind the groups of a set
by_left : {old new : Draft} (left k : ℕ) → IsBounded old → old.next ≡ stands.Bonds left → left ≡ suc k → new.next ≡ sets_to_come k → new.lines ≡ old.lines + 1 → new.steps ≡ old.steps →
    new.head.shores ≡ old.head.shores → length new.head.sets.items ≤ length old.head.sets.items + 1 → IsBounded new
by_left {old} {new} left zero b at last next lines steps shores few =
    let bounds : Bounds (stands.Bonds left) (length old.head.plan) (length old.head.shores) (length old.head.sets.items) =
    subst (λ (x : Next). Bounds x (length old.head.plan) (length old.head.shores) (length old.head.sets.items)) at b.bounds in
    record {
      lines = omega (arith, b.lines, ap to_come at, ap to_come next, lines, last);
      steps = omega (arith, b.steps, steps);
      shores = omega (arith, b.shores, ap (length {A = List ℕ}) shores);
      sets = omega (arith, bounds.1, last, few);
      set = subst (λ (x : Next). HasSet x new.set) (sym next) tt;
      bounds = subst (λ (x : Next). Bounds x (length new.head.plan) (length new.head.shores) (length new.head.sets.items)) (sym next) tt;
    }
by_left {old} {new} left (suc k) b at more next lines steps shores few =
    let bounds : Bounds (stands.Bonds left) (length old.head.plan) (length old.head.shores) (length old.head.sets.items) =
    subst (λ (x : Next). Bounds x (length old.head.plan) (length old.head.shores) (length old.head.sets.items)) at b.bounds in
    record {
      lines = omega (arith, b.lines, ap to_come at, ap to_come next, lines, more);
      steps = omega (arith, b.steps, steps);
      shores = omega (arith, b.shores, ap (length {A = List ℕ}) shores);
      sets = omega (arith, bounds.1, more, few);
      set = subst (λ (x : Next). HasSet x new.set) (sym next) tt;
      bounds = subst (λ (x : Next). Bounds x (length new.head.plan) (length new.head.shores) (length new.head.sets.items)) (sym next) (omega arith, omega (arith, bounds.1, more, few));
    }

pub one_set_less : {old new : Draft} (left : ℕ) → IsBounded old → old.next ≡ stands.Bonds left → new.next ≡ sets_to_come (left - 1) → new.lines ≡ old.lines + 1 → new.steps ≡ old.steps →
    new.head.shores ≡ old.head.shores → length new.head.sets.items ≤ length old.head.sets.items + 1 → IsBounded new
one_set_less {old} {new} left b at next lines steps shores few =
    let bounds : Bounds (stands.Bonds left) (length old.head.plan) (length old.head.shores) (length old.head.sets.items) =
    subst (λ (x : Next). Bounds x (length old.head.plan) (length old.head.shores) (length old.head.sets.items)) at b.bounds in
    by_left left (left - 1) b at (omega (arith, bounds.0)) next lines steps shores few

-- The same with one shore less to come.

by_shores : {old new : Draft} (left k : ℕ) → IsBounded old → old.next ≡ stands.Shore left → left ≡ suc k → new.next ≡ shores_to_come k → new.lines ≡ old.lines + 1 → new.steps ≡ old.steps →
    length new.head.shores ≡ length old.head.shores + 1 → new.head.sets.items ≡ old.head.sets.items → IsBounded new
by_shores {old} {new} left zero b at last next lines steps shores sets =
    let bounds : Bounds (stands.Shore left) (length old.head.plan) (length old.head.shores) (length old.head.sets.items) =
    subst (λ (x : Next). Bounds x (length old.head.plan) (length old.head.shores) (length old.head.sets.items)) at b.bounds in
    let none : length new.head.sets.items ≡ 0 = ap (length {A = Prices}) sets ∙ bounds.2 in
    record {
      lines = omega (arith, b.lines, ap to_come at, ap to_come next, lines, last);
      steps = omega (arith, b.steps, steps);
      shores = omega (arith, bounds.1, last, shores);
      sets = omega (arith, none);
      set = subst (λ (x : Next). HasSet x new.set) (sym next) tt;
      bounds = subst (λ (x : Next). Bounds x (length new.head.plan) (length new.head.shores) (length new.head.sets.items)) (sym next) none;
    }
by_shores {old} {new} left (suc k) b at more next lines steps shores sets =
    let bounds : Bounds (stands.Shore left) (length old.head.plan) (length old.head.shores) (length old.head.sets.items) =
    subst (λ (x : Next). Bounds x (length old.head.plan) (length old.head.shores) (length old.head.sets.items)) at b.bounds in
    let none : length new.head.sets.items ≡ 0 = ap (length {A = Prices}) sets ∙ bounds.2 in
    record {
      lines = omega (arith, b.lines, ap to_come at, ap to_come next, lines, more);
      steps = omega (arith, b.steps, steps);
      shores = omega (arith, bounds.1, more, shores);
      sets = omega (arith, none);
      set = subst (λ (x : Next). HasSet x new.set) (sym next) tt;
      bounds = subst (λ (x : Next). Bounds x (length new.head.plan) (length new.head.shores) (length new.head.sets.items)) (sym next) (omega arith, omega (arith, bounds.1, more, shores), none);
    }

pub one_shore_less : {old new : Draft} (left : ℕ) → IsBounded old → old.next ≡ stands.Shore left → new.next ≡ shores_to_come (left - 1) → new.lines ≡ old.lines + 1 → new.steps ≡ old.steps →
    length new.head.shores ≡ length old.head.shores + 1 → new.head.sets.items ≡ old.head.sets.items → IsBounded new
one_shore_less {old} {new} left b at next lines steps shores sets =
    let bounds : Bounds (stands.Shore left) (length old.head.plan) (length old.head.shores) (length old.head.sets.items) =
    subst (λ (x : Next). Bounds x (length old.head.plan) (length old.head.shores) (length old.head.sets.items)) at b.bounds in
    by_shores left (left - 1) b at (omega (arith, bounds.0)) next lines steps shores sets

pub one_longer : (xs ys : List (List ℕ)) (x : List ℕ) → ys ≡ xs ++ x ∷ [] → length ys ≡ length xs + 1
one_longer xs ys x is = omega (arith, ap (length {A = List ℕ}) is, length-append xs (x ∷ []))
