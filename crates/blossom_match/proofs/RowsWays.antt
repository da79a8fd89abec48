-- An even way along a cycle.
use Rattle.std.proofs.Common.{◌≡◌, ◌≢◌, ℕ, suc, ◌+◌, ◌*◌, ◌-◌, ◌/◌, ◌%◌, ◌<◌, ◌≤◌, cond, eqb, List, length, slice_index, refl, sym, subst, ap, ◌∙◌, arith, inl, inr}
use Rattle.std.proofs.lemmas.Bool.{cases_eq, cases_lt, eq-eqb, ne_eqb}
use Rattle.blossom_match.specs.declared.state.Pair.{Pair}
use Rattle.blossom_match.specs.declared.state.Label.{Label}
use Rattle.blossom_match.specs.Views.{turned, link_at, label_at}
use Rattle.blossom_match.specs.Between.{after}
use Rattle.blossom_match.specs.Cycles.{IsTrip}
use Rattle.blossom_match.specs.Expanding.{AreEnteredBack, AreEnteredOn, AreLabelled, IsCircle, IsWayIn}
use Rattle.blossom_match.proofs.RowsAround.{after_add}

pub on_trip : (next : List ℕ) (slots len base from place : ℕ) → IsCircle next slots len base → place < len → place % 2 ≡ 1 → after next place base ≡ from → IsTrip next slots (len - place) from
on_trip next slots len base from place c place_in odd at =
    let there : (k : ℕ) → after next k from ≡ after next (k + place) base = λ k. ap (λ x. after next k x) (sym at) ∙ sym (after_add next k place (k + place) base refl) in
    let ends : (k : ℕ) → k + place ≡ len → after next k from ≡ base = λ k is. there k ∙ ap (λ x. after next x base) is ∙ c.closes in
    record {
      in_slots = λ k k_in. elim (cases_lt (k + place) len) [
        | inl less ↦ subst (λ x. x < slots) (sym (there k)) (c.in_slots (k + place) less)
        | inr more ↦ subst (λ x. x < slots) (sym (ends k (omega (arith, more, k_in, place_in)))) (c.in_slots 0 (omega (arith, place_in)))
      ];
      apart = λ j k less k_in same. elim (cases_lt (k + place) len) [
        | inl below ↦ c.apart (j + place) (k + place) (omega (arith, less)) below (sym (there j) ∙ same ∙ there k)
        | inr more ↦ c.apart 0 (j + place) (omega (arith, odd)) (omega (arith, less, k_in, place_in)) (sym (ends k (omega (arith, more, k_in, place_in))) ∙ sym same ∙ there j)
      ];
    }

pub way_back : (next : List ℕ) (link : List Pair) (slots base from len place : ℕ) (e : Pair) (label label' : List Label) (entry entry' entry'' : List Pair) → IsCircle next slots len base → place < len → place % 2 ≡ 0 →
    after next place base ≡ from → AreLabelled next base (place + 1) label label' → AreEnteredBack next link base place entry entry' → link_at entry'' from ≡ e → ((t : ℕ) → t ≢ from → link_at entry'' t ≡ link_at entry' t) →
    IsWayIn next link base from len e label label' entry entry''
way_back next link slots base from len place e label label' entry entry' entry'' c place_in even at l b entered stays =
    let twice : 2 * (place / 2) ≡ place = omega (arith, even) in
    let reach : (k : ℕ) → k ≤ place → place - (place - k) ≡ k = λ k k_in. omega (arith, k_in) in
    record {
      turns = place / 2;
      spot = λ k. place - k;
      begins = ap (λ x. after next x base) (omega arith) ∙ at;
      ends = omega (arith, twice);
      in_len = λ k k_in. omega (arith, place_in);
      apart = λ j k less k_in same. omega (arith, less, k_in, same, twice);
      mates = λ i i_in. inr (omega (arith, i_in, even), omega (arith, i_in));
      inner = λ i i_in. l.inner (place - 2 * i) (omega arith) (omega (arith, i_in, even));
      outer = λ i i_in. l.outer (place - suc (2 * i)) (omega arith) (omega (arith, i_in, even));
      off = λ t none. l.off t (λ k k_in. subst (λ x. t ≢ after next x base) (reach k (omega (arith, k_in))) (none (place - k) (omega (arith, twice))));
      entered = entered;
      steps = λ i i_in.
          inl (
            stays (after next (place - suc (suc (2 * i))) base)
                (λ same. c.apart (place - suc (suc (2 * i))) place (omega (arith, i_in)) place_in (same ∙ sym at))
                ∙ b.each (place - suc (suc (2 * i))) (omega (arith, i_in)),
            ap (λ x. after next x base) (one_up (place - suc (suc (2 * i))) (place - suc (2 * i)) (omega (arith, i_in))),
          );
      entries_off = λ t none.
          stays t (λ same. none 0 (omega arith) (same ∙ sym at ∙ ap (λ x. after next x base) (whole place)))
          ∙ b.off t (λ k k_in. subst (λ x. t ≢ after next x base) (reach k (omega (arith, k_in))) (none (place - k) (omega (arith, twice))));
    }
  where
    one_up : (a b : ℕ) → suc a ≡ b → suc a ≡ b
    one_up a b is = is

    whole : (p : ℕ) → p ≡ p - 0
    whole p = omega arith

abbrev spot_on : ℕ → ℕ → ℕ → ℕ
spot_on place len k = cond (eqb (place + k) len) 0 (place + k)

spot_at : (place len k : ℕ) → place + k < len → spot_on place len k ≡ place + k
spot_at place len k less = ap (λ b. cond b 0 (place + k)) (ne_eqb (place + k) len (λ e. omega (arith, e, less)))

spot_end : (place len k : ℕ) → place + k ≡ len → spot_on place len k ≡ 0
spot_end place len k is = ap (λ b. cond b 0 (place + k)) (eq-eqb (place + k) len is)

spot_node : (next : List ℕ) (slots base from len place : ℕ) → IsCircle next slots len base → after next place base ≡ from → (k : ℕ) → place + k ≤ len → after next (spot_on place len k) base ≡ after next k from
spot_node next slots base from len place c at k k_in =
    let there : after next (place + k) base ≡ after next k from = after_add next k place (place + k) base (omega arith) ∙ ap (λ x. after next k x) at in
    elim (cases_lt (place + k) len) [
      | inl less ↦ ap (λ x. after next x base) (spot_at place len k less) ∙ there
      | inr more ↦
          let is : place + k ≡ len = omega (arith, more, k_in) in
          ap (λ x. after next x base) (spot_end place len k is) ∙ sym c.closes ∙ ap (λ x. after next x base) (sym is) ∙ there
    ]

pub way_on : (next : List ℕ) (link : List Pair) (slots base from len place : ℕ) (e : Pair) (label label' : List Label) (entry entry' entry'' : List Pair) → IsCircle next slots len base → place < len → place % 2 ≡ 1 →
    after next place base ≡ from → AreLabelled next from (len - place + 1) label label' → AreEnteredOn next link from (len - place) entry entry' → link_at entry'' from ≡ e → ((t : ℕ) → t ≢ from → link_at entry'' t ≡ link_at entry' t) →
    IsWayIn next link base from len e label label' entry entry''
way_on next link slots base from len place e label label' entry entry' entry'' c place_in odd at l b entered stays =
    let twice : place + 2 * ((len - place) / 2) ≡ len = omega (arith, odd, c.odd, place_in) in
    let node : (k : ℕ) → place + k ≤ len → after next (spot_on place len k) base ≡ after next k from = spot_node next slots base from len place c at in
    let trip = on_trip next slots len base from place c place_in odd at in
    record {
      turns = (len - place) / 2;
      spot = λ k. spot_on place len k;
      begins = node 0 (omega (arith, place_in));
      ends = spot_end place len (2 * ((len - place) / 2)) twice;
      in_len = λ k k_in. elim (cases_lt (place + k) len) [
        | inl less ↦ subst (λ x. x < len) (sym (spot_at place len k less)) less
        | inr more ↦ subst (λ x. x < len) (sym (spot_end place len k (omega (arith, more, k_in, twice)))) (omega (arith, place_in))
      ];
      apart = λ j k less k_in same.
          let low = spot_at place len j (omega (arith, less, k_in, twice)) in
          elim (cases_lt (place + k) len) [
            | inl below ↦ omega (arith, less, same, low, spot_at place len k below)
            | inr more ↦ omega (arith, odd, same, low, spot_end place len k (omega (arith, more, k_in, twice)))
          ];
      mates = λ i i_in.
          let one = spot_at place len (2 * i) (omega (arith, i_in, twice)) in
          let two = spot_at place len (suc (2 * i)) (omega (arith, i_in, twice)) in
          inl (omega (arith, one, odd), omega (arith, one, two));
      inner = λ i i_in. ap (λ x. label_at label' x) (node (2 * i) (omega (arith, i_in, twice))) ∙ l.inner (2 * i) (omega (arith, i_in, twice)) (omega arith);
      outer = λ i i_in. ap (λ x. label_at label' x) (node (suc (2 * i)) (omega (arith, i_in, twice))) ∙ l.outer (suc (2 * i)) (omega (arith, i_in, twice)) (omega arith);
      off = λ t none. l.off t (λ k k_in. subst (λ x. t ≢ x) (node k (omega (arith, k_in, place_in))) (none k (omega (arith, k_in, twice, place_in))));
      entered = entered;
      steps = λ i i_in.
          let a = node (suc (suc (2 * i))) (omega (arith, i_in, twice)) in
          let b_at = node (suc (2 * i)) (omega (arith, i_in, twice)) in
          inr (
            ap (λ x. link_at entry'' x) a
                ∙ stays (after next (suc (suc (2 * i))) from) (λ same. trip.apart 0 (suc (suc (2 * i))) (omega arith) (omega (arith, i_in, twice, place_in)) (sym same))
                ∙ b.each (suc (2 * i)) (omega (arith, i_in, twice, place_in))
                ∙ ap (λ x. turned (link_at link x)) (sym b_at),
            ap (λ x. slice_index next x) b_at ∙ sym a,
          );
      entries_off = λ t none.
          stays t (λ same. none 0 (omega arith) (same ∙ sym (node 0 (omega (arith, place_in)))))
          ∙ b.off t (λ k k_in. subst (λ x. t ≢ x) (node (suc k) (omega (arith, k_in, place_in))) (none (suc k) (omega (arith, k_in, twice, place_in))));
    }

pub entered_more : (next : List ℕ) (link : List Pair) (start k k' part : ℕ) (count : ℕ) (entry entry' entry'' : List Pair) → IsTrip next (length next) count start → k < count → k' ≡ suc k → part ≡ after next k start →
    AreEnteredOn next link start k entry entry' → link_at entry'' (slice_index next part) ≡ turned (link_at link part) → ((t : ℕ) → t ≢ slice_index next part → link_at entry'' t ≡ link_at entry' t) →
    AreEnteredOn next link start k' entry entry''
entered_more next link start k k' part count entry entry' entry'' trip k_in more at so_far here off =
    let one : slice_index next part ≡ after next (suc k) start = ap (λ x. slice_index next x) at in
    record {
      each = λ j j_in. elim (cases_eq j k) [
        | inl same ↦ subst (λ x. link_at entry'' (after next (suc x) start) ≡ turned (link_at link (after next x start))) (sym same)
            (subst (λ x. link_at entry'' (slice_index next x) ≡ turned (link_at link x)) at here)
        | inr other ↦
            off (after next (suc j) start) (λ e. trip.apart (suc j) (suc k) (omega (arith, other, j_in, more)) (omega (arith, k_in)) (e ∙ one))
            ∙ so_far.each j (omega (arith, other, j_in, more))
      ];
      off = λ t none. off t (λ e. none k (omega (arith, more)) (e ∙ one)) ∙ so_far.off t (λ j j_in. none j (omega (arith, j_in, more)));
    }
