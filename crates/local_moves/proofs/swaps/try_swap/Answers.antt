use Rattle.std.proofs.Common.{◌≡◌, ◌<◌, ◌+◌, ◌-◌, List, ℕ, length, get_or, set, refl, arith, ap, subst, ◌∙◌, sym}
use Rattle.std.specs.Prelude.{IsTrue}
use Rattle.std.proofs.lemmas.List.{length-set, get_or-set_same, get_or-set_other}
use Rattle.local_moves.specs.Sequences.{fits}
use Rattle.local_moves.proofs.Deltas.{swap_delta}
use Rattle.local_moves.proofs.Kept.{set_sequence, swap_services}
use Rattle.local_moves.proofs.Later.{answered, later}
use Rattle.local_moves.proofs.swaps.try_swap.Goals as goal
use Rattle.local_moves.proofs.swaps.try_swap.Goals.{then-first-second, else-first-second}

-- the stop before the second place, once the first is changed
beside : (xs : List ℕ) (f s y last : ℕ) → f < length xs → f + 1 ≡ s → last ≡ y → get_or (set xs f y) (s - 1) 0 ≡ last
beside xs f s y last within next is = ap (λ i. get_or (set xs f y) i 0) (omega (arith, next)) ∙ get_or-set_same xs f y 0 within ∙ sym is

apart : (xs : List ℕ) (f s y last : ℕ) → f < s → (f + 1 ≡ s → ⊥) → last ≡ get_or xs (s - 1) 0 → get_or (set xs f y) (s - 1) 0 ≡ last
apart xs f s y last order other is = get_or-set_other xs f (s - 1) y 0 (λ same. other (omega (arith, same, order))) ∙ sym is

pub returns-then-new-old : goal.returns-then-new-old
returns-then-new-old c = λ one two better.
    let b = c.args.board.now in
    let xs = c.args.sequence.now in
    let f = c.args.first in
    let s = c.args.second in
    let x = get_or xs f 0 in
    let y = get_or xs s 0 in
    let last = c.if-first-second.last in
    let is_last : get_or (set xs f y) (s - 1) 0 ≡ last =
    elim c.if-first-second.branch [
      | then-first-second w ↦ beside xs f s y last (omega (arith, c.requires.order, c.requires.before_last)) (omega (arith, w.if-first-second.true)) w.last-is
      | else-first-second w ↦ apart xs f s y last c.requires.order (λ same. omega (arith, same, w.if-first-second.false)) w.last-is
    ] in
    omega (
      arith,
      better.cheaper,
      swap_delta b xs f s x y last c.requires.after_first c.requires.order c.requires.before_last refl refl is_last,
      c.between.ensures.value,
      c.between-2.ensures.value,
      c.between-3.ensures.value,
      c.between-4.ensures.value,
      c.between-5.ensures.value,
      c.between-6.ensures.value,
      c.between-7.ensures.value,
      c.between-8.ensures.value,
      c.if-new-old.true,
    )

pub returns : goal.returns
returns c =
    let b = c.args.board.now in
    let xs = c.args.sequence.now in
    let f = c.args.first in
    let s = c.args.second in
    let x = get_or xs f 0 in
    let y = get_or xs s 0 in
    let last = c.if-first-second.last in
    let is_last : get_or (set xs f y) (s - 1) 0 ≡ last =
    elim c.if-first-second.branch [
      | then-first-second w ↦ beside xs f s y last (omega (arith, c.requires.order, c.requires.before_last)) (omega (arith, w.if-first-second.true)) w.last-is
      | else-first-second w ↦ apart xs f s y last c.requires.order (λ same. omega (arith, same, w.if-first-second.false)) w.last-is
    ] in
    let ys = set (set xs f y) s x in
    let made : set (set c.in_ok-changed.changed.items f y) s x ≡ ys = ap (λ zs. set (set zs f y) s x) c.in_ok-changed.ensures.items in
    answered c.accept.result c.accept.ensures
    (λ none one two better. none (subst (λ zs. IsTrue (fits b zs)) (sym made) better.loads))
    (λ next found.
    later b xs ys next.items (found.0 ∙ made) (subst (λ zs. IsTrue (fits b zs)) made found.1)
    (omega (
      arith,
      swap_delta b xs f s x y last c.requires.after_first c.requires.order c.requires.before_last refl refl is_last,
      c.between.ensures.value,
      c.between-2.ensures.value,
      c.between-3.ensures.value,
      c.between-4.ensures.value,
      c.between-5.ensures.value,
      c.between-6.ensures.value,
      c.between-7.ensures.value,
      c.between-8.ensures.value,
      c.if-new-old.false,
    ))
    (set_sequence b (set xs f y) s x
    (set_sequence b xs f y c.requires.sequence c.requires.after_first (omega (arith, c.requires.order, c.requires.before_last)) (c.requires.sequence.within s 0 (omega (arith, c.requires.before_last))) (c.requires.sequence.real s 0 (omega (arith, c.requires.before_last))))
    (omega (arith, c.requires.after_first, c.requires.order)) (omega (arith, length-set xs f y, c.requires.before_last))
    (c.requires.sequence.within f 0 (omega (arith, c.requires.order, c.requires.before_last))) (c.requires.sequence.real f 0 (omega (arith, c.requires.order, c.requires.before_last))))
    (swap_services xs f s c.requires.order (omega (arith, c.requires.before_last))))
