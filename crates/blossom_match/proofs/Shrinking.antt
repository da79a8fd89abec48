-- One node is made of an odd cycle: what holds between two searches is kept.
use Rattle.std.proofs.Common.{◌≡◌, ◌≢◌, ℕ, zero, suc, ◌*◌, ◌%◌, ◌<◌, ◌≤◌, Bool, true, false, ◌||◌, cond, eqb, ltb, Option, Some, None, is_some, IfSome, slice_index, refl, sym, subst, ap, ◌∙◌, arith, inl, inr}
use Rattle.std.proofs.lemmas.Bool.{cases_eq, cases_order, cases_Bool, false≢true, eq-eqb, ne_eqb, eqb-true, le-ltb, or_right, false_from_ne_true}
use Rattle.std.proofs.lemmas.List.{get_or-set_same, get_or-set_other}
use Rattle.blossom_match.specs.declared.costs.Costs.{Costs}
use Rattle.blossom_match.specs.declared.state.State.{State}
use Rattle.blossom_match.specs.Matching.{total, members, parts, IsOdd, AreLaminar}
use Rattle.blossom_match.specs.Views.{holds, held_sum, between, link_at, child_at, is_used}
use Rattle.blossom_match.specs.Turns.{top_of}
use Rattle.blossom_match.specs.Rings.{IsRing, IsSlot, IsShrunk}
use Rattle.blossom_match.specs.Between.{AreTops, AreSets, AreWeights, AreCycles, IsCycle, IsLink, IsBetween, IsSearching, after}
use Rattle.blossom_match.proofs.Totals.{total-ext, total-none, total-only, total-swap}
use Rattle.blossom_match.proofs.Duality.{some_or_none}
use Rattle.blossom_match.proofs.Raising.{between_apart}
use Rattle.blossom_match.proofs.Limits.{top_used}
use Rattle.blossom_match.proofs.Answering.{laminar_same}
use Rattle.blossom_match.proofs.Keeping.{cycle_moved, child_inside}

pub record Shrunk (costs : Costs) (before now : State) (on : ℕ → Bool) (whole end : ℕ) : Type 0 where
  pub searching : IsSearching costs before
  pub ring : IsRing costs before searching.tree.depth now.next.items now.link.items on end
  pub slot : IsSlot before on end whole
  pub is : IsShrunk before now on whole end

slot_unused : (n s : ℕ) (o : Option ℕ) → n ≤ s → o ≡ None → (ltb s n || is_some o) ≡ false
slot_unused n s o high none = ap (λ x. x || is_some o) (le-ltb s n high) ∙ ap (λ x. is_some x) none

-- the slot held nobody before
was_unused : (costs : Costs) (before now : State) (on : ℕ → Bool) (whole end : ℕ) → Shrunk costs before now on whole end → is_used before.size before.child.items whole ≡ false
was_unused costs before now on whole end x = slot_unused before.size whole (child_at before.child.items whole) x.slot.larger x.slot.free

pub was_empty : (costs : Costs) (before now : State) (on : ℕ → Bool) (whole end : ℕ) → Shrunk costs before now on whole end → (v : ℕ) → v < before.size → holds before.size before.held.items whole v ≡ false
was_empty costs before now on whole end x v v_in = x.searching.so_far.sets.empty whole v x.slot.in_slots v_in (was_unused costs before now on whole end x)

no_weight : (costs : Costs) (before now : State) (on : ℕ → Bool) (whole end : ℕ) → Shrunk costs before now on whole end → slice_index before.halves.items whole ≡ 0
no_weight costs before now on whole end x = x.searching.so_far.sets.weightless whole x.slot.in_slots (was_unused costs before now on whole end x)

pub no_top : (costs : Costs) (before now : State) (on : ℕ → Bool) (whole end : ℕ) → Shrunk costs before now on whole end → (v : ℕ) → v < before.size → top_of before v ≢ whole
no_top costs before now on whole end x v v_in same =
    false≢true (sym (was_empty costs before now on whole end x v v_in) ∙ subst (λ s. holds before.size before.held.items s v ≡ true) same (x.searching.so_far.tops.own v v_in))

-- the nodes of the cycle are outermost
pub on_top : (costs : Costs) (before now : State) (on : ℕ → Bool) (whole end : ℕ) → Shrunk costs before now on whole end → (s : ℕ) → on s ≡ true → (w : ℕ) × (w < before.size) × (top_of before w ≡ s)
on_top costs before now on whole end x s at = x.searching.tree.outermost s (x.ring.in_slots s at) (x.ring.labelled s at)

pub on_other : (costs : Costs) (before now : State) (on : ℕ → Bool) (whole end : ℕ) → Shrunk costs before now on whole end → (s : ℕ) → on s ≡ true → s ≢ whole
on_other costs before now on whole end x s at same =
    let w = on_top costs before now on whole end x s at in
    no_top costs before now on whole end x w.0 w.1 (w.2 ∙ same)

pub on_used : (costs : Costs) (before now : State) (on : ℕ → Bool) (whole end : ℕ) → Shrunk costs before now on whole end → (s : ℕ) → on s ≡ true → is_used before.size before.child.items s ≡ true
on_used costs before now on whole end x s at =
    let w = on_top costs before now on whole end x s at in
    subst (λ y. is_used before.size before.child.items y ≡ true) w.2 (top_used costs before w.0 x.searching.so_far w.1)

-- who is held by an outermost node
pub held_top : (costs : Costs) (before : State) → IsBetween costs before → (s w v : ℕ) → w < before.size → v < before.size → top_of before w ≡ s → holds before.size before.held.items s v ≡ true → top_of before v ≡ s
held_top costs before b s w v w_in v_in is at =
    b.tops.inside s v w (subst (λ y. y < 2 * before.size) is (b.tops.top_in w w_in)) v_in w_in at (subst (λ y. holds before.size before.held.items y w ≡ true) is (b.tops.own w w_in)) ∙ is

pub top_holds : (costs : Costs) (before : State) → IsBetween costs before → (s v : ℕ) → v < before.size → top_of before v ≡ s → holds before.size before.held.items s v ≡ true
top_holds costs before b s v v_in is = subst (λ y. holds before.size before.held.items y v ≡ true) is (b.tops.own v v_in)

-- the members of one node of the cycle
one_node : (costs : Costs) (before now : State) (on : ℕ → Bool) (whole end : ℕ) → Shrunk costs before now on whole end → (s v : ℕ) → on s ≡ true → v < before.size →
    holds before.size before.held.items s v ≡ eqb (top_of before v) s
one_node costs before now on whole end x s v at v_in = elim (cases_eq (top_of before v) s) [
  | inl same ↦ top_holds costs before x.searching.so_far s v v_in same ∙ sym (eq-eqb (top_of before v) s same)
  | inr other ↦
      let w = on_top costs before now on whole end x s at in
      false_from_ne_true (holds before.size before.held.items s v) (λ held. other (held_top costs before x.searching.so_far s w.0 v w.1 v_in w.2 held)) ∙ sym (ne_eqb (top_of before v) s other)
]

odd_sum : (len : ℕ) (f : ℕ → ℕ) → ((k : ℕ) → k < len → f k % 2 ≡ 1) → total len f % 2 ≡ len % 2
odd_sum zero f odd = refl
odd_sum (suc len) f odd = omega (arith, odd_sum len f (λ k below. odd k (omega arith)), odd len (omega arith))

counted : (costs : Costs) (before now : State) (on : ℕ → Bool) (whole end : ℕ) → (x : Shrunk costs before now on whole end) → (v : ℕ) →
    cond {A = ℕ} (on (top_of before v)) 1 0 ≡ total x.ring.len (λ k. cond (eqb (top_of before v) (x.ring.spot k)) 1 0)
counted costs before now on whole end x v = elim (cases_Bool (on (top_of before v))) [
  | inl at ↦
      let w = x.ring.all (top_of before v) at in
      ap (λ b. cond {A = ℕ} b 1 0) at
      ∙ sym (
      total-only x.ring.len (λ k. cond (eqb (top_of before v) (x.ring.spot k)) 1 0) w.0 w.1
      (λ k k_in other. ap (λ b. cond b 1 0) (ne_eqb (top_of before v) (x.ring.spot k) (λ e. elim (cases_order k w.0) [
        | inl same ↦ other same
        | inr (inl less) ↦ x.ring.apart k w.0 less w.1 (sym e ∙ sym w.2)
        | inr (inr more) ↦ x.ring.apart w.0 k more k_in (w.2 ∙ e)
      ])))
      ∙ ap (λ b. cond b 1 0) (eq-eqb (top_of before v) (x.ring.spot w.0) (sym w.2)))
  | inr off ↦
      ap (λ b. cond {A = ℕ} b 1 0) off
      ∙ sym (total-none x.ring.len (λ k. cond (eqb (top_of before v) (x.ring.spot k)) 1 0)
      (λ k k_in. ap (λ b. cond b 1 0) (ne_eqb (top_of before v) (x.ring.spot k) (λ e. false≢true (sym off ∙ ap on e ∙ x.ring.along k (omega (arith, k_in)))))))
]

whole_odd : (costs : Costs) (before now : State) (on : ℕ → Bool) (whole end : ℕ) → Shrunk costs before now on whole end → IsOdd before.size (holds before.size now.held.items whole)
whole_odd costs before now on whole end x =
    let n = before.size in
    let one : members n (holds n now.held.items whole) ≡ total n (λ v. total x.ring.len (λ k. cond (eqb (top_of before v) (x.ring.spot k)) 1 0)) =
    total-ext n (λ v. cond (holds n now.held.items whole v) 1 0) (λ v. total x.ring.len (λ k. cond (eqb (top_of before v) (x.ring.spot k)) 1 0))
    (λ v v_in. ap (λ b. cond b 1 0) (x.is.row v v_in) ∙ counted costs before now on whole end x v) in
    let two = total-swap n x.ring.len (λ v k. cond {A = ℕ} (eqb (top_of before v) (x.ring.spot k)) 1 0) in
    let odd : total x.ring.len (λ k. total n (λ v. cond (eqb (top_of before v) (x.ring.spot k)) 1 0)) % 2 ≡ x.ring.len % 2 =
    odd_sum x.ring.len (λ k. total n (λ v. cond (eqb (top_of before v) (x.ring.spot k)) 1 0)) (λ k k_in.
    let at = x.ring.along k (omega (arith, k_in)) in
    let same : total n (λ v. cond (eqb (top_of before v) (x.ring.spot k)) 1 0) ≡ members n (holds n before.held.items (x.ring.spot k)) =
    total-ext n (λ v. cond (eqb (top_of before v) (x.ring.spot k)) 1 0) (λ v. cond (holds n before.held.items (x.ring.spot k) v) 1 0)
    (λ v v_in. ap (λ b. cond b 1 0) (sym (one_node costs before now on whole end x (x.ring.spot k) v at v_in))) in
    ap (λ y. y % 2) same ∙ x.searching.so_far.sets.odd (x.ring.spot k) (x.ring.in_slots (x.ring.spot k) at) (on_used costs before now on whole end x (x.ring.spot k) at)) in
    ap (λ y. y % 2) (one ∙ two) ∙ odd ∙ x.ring.odd

pub used_off : (costs : Costs) (before now : State) (on : ℕ → Bool) (whole end : ℕ) → Shrunk costs before now on whole end → (s : ℕ) → s ≢ whole →
    is_used before.size now.child.items s ≡ is_used before.size before.child.items s
used_off costs before now on whole end x s other =
    ap (λ o. ltb s before.size || is_some o) (ap (λ l. child_at l s) x.is.child ∙ get_or-set_other before.child.items whole s (Some end) None other)

pub child_whole : (costs : Costs) (before now : State) (on : ℕ → Bool) (whole end : ℕ) → Shrunk costs before now on whole end → child_at now.child.items whole ≡ Some end
child_whole costs before now on whole end x =
    ap (λ l. child_at l whole) x.is.child ∙ get_or-set_same before.child.items whole (Some end) None (omega (arith, x.slot.in_slots, x.searching.so_far.shape.child_len))

child_off : (costs : Costs) (before now : State) (on : ℕ → Bool) (whole end : ℕ) → Shrunk costs before now on whole end → (s : ℕ) → s ≢ whole → child_at now.child.items s ≡ child_at before.child.items s
child_off costs before now on whole end x s other = ap (λ l. child_at l s) x.is.child ∙ get_or-set_other before.child.items whole s (Some end) None other

pub used_whole : (costs : Costs) (before now : State) (on : ℕ → Bool) (whole end : ℕ) → Shrunk costs before now on whole end → is_used before.size now.child.items whole ≡ true
used_whole costs before now on whole end x = or_right (ltb whole before.size) (is_some (child_at now.child.items whole)) (ap (λ o. is_some o) (child_whole costs before now on whole end x))

laminar_turned : (n : ℕ) (a b : ℕ → Bool) → AreLaminar n a b → AreLaminar n b a
laminar_turned n a b (inl inside) = inr (inl inside)
laminar_turned n a b (inr (inl inside)) = inl inside
laminar_turned n a b (inr (inr apart)) = inr (inr (λ v v_in on. false_from_ne_true (a v) (λ at. false≢true (sym (apart v v_in at) ∙ on))))

laminar_whole : (costs : Costs) (before now : State) (on : ℕ → Bool) (whole end : ℕ) → Shrunk costs before now on whole end → (t : ℕ) → t < 2 * before.size → t ≢ whole →
    AreLaminar before.size (holds before.size now.held.items whole) (holds before.size now.held.items t)
laminar_whole costs before now on whole end x t t_in other = elim (some_or_none before.size (holds before.size now.held.items t)) [
  | inr none ↦ inr (inl (λ v v_in at. absurd (false≢true (sym (none v v_in) ∙ at))))
  | inl some ↦
      let same : (v : ℕ) → v < before.size → holds before.size now.held.items t v ≡ true → top_of before v ≡ top_of before some.0 = λ v v_in at.
      x.searching.so_far.tops.inside t v some.0 t_in v_in some.1 (sym (x.is.rows t v v_in other) ∙ at) (sym (x.is.rows t some.0 some.1 other) ∙ some.2) in
      elim (cases_Bool (on (top_of before some.0))) [
        | inl inside ↦ inr (inl (λ v v_in at. x.is.row v v_in ∙ ap on (same v v_in at) ∙ inside))
        | inr outside ↦ inr (inr (λ v v_in held. false_from_ne_true (holds before.size now.held.items t v) (λ at.
            false≢true (sym outside ∙ sym (ap on (same v v_in at)) ∙ sym (x.is.row v v_in) ∙ held))))
      ]
]

-- the new node is no other one
distinct_whole : (costs : Costs) (before now : State) (on : ℕ → Bool) (whole end : ℕ) → Shrunk costs before now on whole end → (t : ℕ) → t < 2 * before.size → t ≢ whole →
    ((v : ℕ) → v < before.size → holds before.size now.held.items whole v ≡ holds before.size now.held.items t v) → ⊥
distinct_whole costs before now on whole end x t t_in other same =
    let a_on = x.ring.along 0 (omega arith) in
    let b_on = x.ring.along 1 (omega (arith, x.ring.several)) in
    let a = on_top costs before now on whole end x (x.ring.spot 0) a_on in
    let b = on_top costs before now on whole end x (x.ring.spot 1) b_on in
    let in_t : (w s : ℕ) → w < before.size → top_of before w ≡ s → on s ≡ true → holds before.size before.held.items t w ≡ true = λ w s w_in is at.
    sym (x.is.rows t w w_in other) ∙ sym (same w w_in) ∙ x.is.row w w_in ∙ ap on is ∙ at in
    x.ring.apart 0 1 (omega arith) (omega (arith, x.ring.several))
    (sym a.2 ∙ x.searching.so_far.tops.inside t a.0 b.0 t_in a.1 b.1 (in_t a.0 (x.ring.spot 0) a.1 a.2 a_on) (in_t b.0 (x.ring.spot 1) b.1 b.2 b_on) ∙ b.2)

pub shrunk_sets : (costs : Costs) (before now : State) (on : ℕ → Bool) (whole end : ℕ) → Shrunk costs before now on whole end → AreSets before.size now.held.items before.halves.items now.child.items
shrunk_sets costs before now on whole end x =
    let n = before.size in
    let old = x.searching.so_far.sets in
    let row : (s : ℕ) → s ≢ whole → (v : ℕ) → v < n → holds n now.held.items s v ≡ holds n before.held.items s v = λ s other v v_in. x.is.rows s v v_in other in
    record {
      odd = λ s s_in used. elim (cases_eq s whole) [
        | inl same ↦ subst (λ y. IsOdd n (holds n now.held.items y)) (sym same) (whole_odd costs before now on whole end x)
        | inr other ↦
            ap (λ y. y % 2) (total-ext n (λ v. cond (holds n now.held.items s v) 1 0) (λ v. cond (holds n before.held.items s v) 1 0) (λ v v_in. ap (λ b. cond b 1 0) (row s other v v_in)))
            ∙ old.odd s s_in (sym (used_off costs before now on whole end x s other) ∙ used)
      ];
      laminar = λ s t s_in t_in apart. elim (cases_eq s whole) [
        | inl same ↦ subst (λ y. AreLaminar n (holds n now.held.items y) (holds n now.held.items t)) (sym same) (laminar_whole costs before now on whole end x t t_in (λ e. apart (same ∙ sym e)))
        | inr s_other ↦ elim (cases_eq t whole) [
          | inl same ↦ subst (λ y. AreLaminar n (holds n now.held.items s) (holds n now.held.items y)) (sym same)
              (laminar_turned n (holds n now.held.items whole) (holds n now.held.items s) (laminar_whole costs before now on whole end x s s_in s_other))
          | inr t_other ↦ laminar_same n (holds n now.held.items s) (holds n now.held.items t) (holds n before.held.items s) (holds n before.held.items t) (row s s_other) (row t t_other) (old.laminar s t s_in t_in apart)
        ]
      ];
      distinct = λ s t s_in t_in s_used t_used apart same. elim (cases_eq s whole) [
        | inl is ↦ distinct_whole costs before now on whole end x t t_in (λ e. apart (is ∙ sym e)) (λ v v_in. ap (λ y. holds n now.held.items y v) (sym is) ∙ same v v_in)
        | inr s_other ↦ elim (cases_eq t whole) [
          | inl is ↦ distinct_whole costs before now on whole end x s s_in s_other (λ v v_in. ap (λ y. holds n now.held.items y v) (sym is) ∙ sym (same v v_in))
          | inr t_other ↦ old.distinct s t s_in t_in (sym (used_off costs before now on whole end x s s_other) ∙ s_used) (sym (used_off costs before now on whole end x t t_other) ∙ t_used) apart
              (λ v v_in. sym (row s s_other v v_in) ∙ same v v_in ∙ row t t_other v v_in)
        ]
      ];
      empty = λ s v s_in v_in unused. elim (cases_eq s whole) [
        | inl same ↦ absurd (false≢true (sym unused ∙ ap (λ y. is_used n now.child.items y) same ∙ used_whole costs before now on whole end x))
        | inr other ↦ row s other v v_in ∙ old.empty s v s_in v_in (sym (used_off costs before now on whole end x s other) ∙ unused)
      ];
      weightless = λ s s_in unused. elim (cases_eq s whole) [
        | inl same ↦ absurd (false≢true (sym unused ∙ ap (λ y. is_used n now.child.items y) same ∙ used_whole costs before now on whole end x))
        | inr other ↦ old.weightless s s_in (sym (used_off costs before now on whole end x s other) ∙ unused)
      ];
    }

-- the outermost node of a member now
pub top_on : (costs : Costs) (before now : State) (on : ℕ → Bool) (whole end : ℕ) → Shrunk costs before now on whole end → (v : ℕ) → v < before.size → on (top_of before v) ≡ true → top_of now v ≡ whole
top_on costs before now on whole end x v v_in at = x.is.top v v_in ∙ ap (λ b. cond b whole (top_of before v)) at

pub top_off : (costs : Costs) (before now : State) (on : ℕ → Bool) (whole end : ℕ) → Shrunk costs before now on whole end → (v : ℕ) → v < before.size → on (top_of before v) ≡ false → top_of now v ≡ top_of before v
top_off costs before now on whole end x v v_in off = x.is.top v v_in ∙ ap (λ b. cond b whole (top_of before v)) off

pub shrunk_tops : (costs : Costs) (before now : State) (on : ℕ → Bool) (whole end : ℕ) → Shrunk costs before now on whole end → AreTops before.size now.held.items now.top.items
shrunk_tops costs before now on whole end x =
    let n = before.size in
    let old = x.searching.so_far.tops in
    record {
      top_in = λ v v_in. elim (cases_Bool (on (top_of before v))) [
        | inl at ↦ omega (arith, top_on costs before now on whole end x v v_in at, x.slot.in_slots)
        | inr off ↦ omega (arith, top_off costs before now on whole end x v v_in off, old.top_in v v_in)
      ];
      own = λ v v_in. elim (cases_Bool (on (top_of before v))) [
        | inl at ↦ ap (λ s. holds n now.held.items s v) (top_on costs before now on whole end x v v_in at) ∙ x.is.row v v_in ∙ at
        | inr off ↦ ap (λ s. holds n now.held.items s v) (top_off costs before now on whole end x v v_in off)
            ∙ x.is.rows (top_of before v) v v_in (no_top costs before now on whole end x v v_in) ∙ old.own v v_in
      ];
      inside = λ s v w s_in v_in w_in at_v at_w. elim (cases_eq s whole) [
        | inl same ↦
            let on_v = sym (x.is.row v v_in) ∙ ap (λ y. holds n now.held.items y v) (sym same) ∙ at_v in
            let on_w = sym (x.is.row w w_in) ∙ ap (λ y. holds n now.held.items y w) (sym same) ∙ at_w in
            top_on costs before now on whole end x v v_in on_v ∙ sym (top_on costs before now on whole end x w w_in on_w)
        | inr other ↦
            let alike = old.inside s v w s_in v_in w_in (sym (x.is.rows s v v_in other) ∙ at_v) (sym (x.is.rows s w w_in other) ∙ at_w) in
            x.is.top v v_in ∙ ap (λ y. cond (on y) whole y) alike ∙ sym (x.is.top w w_in)
      ];
    }

weightless_term : (a b : Bool) (h : ℕ) → h ≡ 0 → cond a h 0 ≡ cond b h 0
weightless_term true true h none = refl
weightless_term true false h none = none
weightless_term false true h none = sym none
weightless_term false false h none = refl

same_held_sum : (costs : Costs) (before now : State) (on : ℕ → Bool) (whole end : ℕ) → Shrunk costs before now on whole end → (v : ℕ) → v < before.size →
    held_sum before.size now.held.items before.halves.items v ≡ held_sum before.size before.held.items before.halves.items v
same_held_sum costs before now on whole end x v v_in =
    total-ext (2 * before.size) (λ s. cond (holds before.size now.held.items s v) (slice_index before.halves.items s) 0) (λ s. cond (holds before.size before.held.items s v) (slice_index before.halves.items s) 0)
    (λ s s_in. elim (cases_eq s whole) [
      | inl same ↦ weightless_term (holds before.size now.held.items s v) (holds before.size before.held.items s v) (slice_index before.halves.items s) (ap (λ y. slice_index before.halves.items y) same ∙ no_weight costs before now on whole end x)
      | inr other ↦ ap (λ b. cond b (slice_index before.halves.items s) 0) (x.is.rows s v v_in other)
    ])

same_between : (costs : Costs) (before now : State) (on : ℕ → Bool) (whole end : ℕ) → Shrunk costs before now on whole end → (u v : ℕ) → u < before.size → v < before.size →
    between before.size now.held.items before.halves.items u v ≡ between before.size before.held.items before.halves.items u v
same_between costs before now on whole end x u v u_in v_in =
    let n = before.size in
    total-ext (2 * n) (λ s. cond (parts (holds n now.held.items s u) (holds n now.held.items s v)) (slice_index before.halves.items s) 0)
    (λ s. cond (parts (holds n before.held.items s u) (holds n before.held.items s v)) (slice_index before.halves.items s) 0)
    (λ s s_in. elim (cases_eq s whole) [
      | inl same ↦ weightless_term (parts (holds n now.held.items s u) (holds n now.held.items s v)) (parts (holds n before.held.items s u) (holds n before.held.items s v)) (slice_index before.halves.items s)
          (ap (λ y. slice_index before.halves.items y) same ∙ no_weight costs before now on whole end x)
      | inr other ↦
          ap (λ b. cond (parts b (holds n now.held.items s v)) (slice_index before.halves.items s) 0) (x.is.rows s u u_in other)
          ∙ ap (λ b. cond (parts (holds n before.held.items s u) b) (slice_index before.halves.items s) 0) (x.is.rows s v v_in other)
    ])

pub shrunk_weights : (costs : Costs) (before now : State) (on : ℕ → Bool) (whole end : ℕ) → Shrunk costs before now on whole end →
    AreWeights costs before.size now.held.items before.halves.items now.top.items before.sums.items
shrunk_weights costs before now on whole end x =
    let old = x.searching.so_far.weights in
    record {
      kept = λ v v_in. old.kept v v_in ∙ sym (same_held_sum costs before now on whole end x v v_in);
      packing = λ u v u_in v_in other. omega (arith, same_between costs before now on whole end x u v u_in v_in, old.packing u v u_in v_in other);
      parity = λ u v u_in v_in same. elim (cases_Bool (on (top_of before u))) [
        | inl on_u ↦ elim (cases_Bool (on (top_of before v))) [
          | inl on_v ↦ x.searching.tree.parity u v u_in v_in (x.ring.labelled (top_of before u) on_u) (x.ring.labelled (top_of before v) on_v)
          | inr off_v ↦ absurd (no_top costs before now on whole end x v v_in (sym (top_off costs before now on whole end x v v_in off_v) ∙ sym same ∙ top_on costs before now on whole end x u u_in on_u))
        ]
        | inr off_u ↦ elim (cases_Bool (on (top_of before v))) [
          | inl on_v ↦ absurd (no_top costs before now on whole end x u u_in (sym (top_off costs before now on whole end x u u_in off_u) ∙ same ∙ top_on costs before now on whole end x v v_in on_v))
          | inr off_v ↦ old.parity u v u_in v_in (sym (top_off costs before now on whole end x u u_in off_u) ∙ same ∙ top_off costs before now on whole end x v v_in off_v)
        ]
      ];
    }

spots : (costs : Costs) (before now : State) (on : ℕ → Bool) (whole end : ℕ) → (x : Shrunk costs before now on whole end) → (k : ℕ) → k ≤ x.ring.len → after now.next.items k end ≡ x.ring.spot k
spots costs before now on whole end x zero below = sym x.ring.first
spots costs before now on whole end x (suc k) below = ap (λ y. slice_index now.next.items y) (spots costs before now on whole end x k (omega arith)) ∙ x.ring.goes k (omega arith)

new_cycle : (costs : Costs) (before now : State) (on : ℕ → Bool) (whole end : ℕ) → Shrunk costs before now on whole end →
    IsCycle costs before.size now.held.items before.halves.items now.child.items now.next.items now.link.items whole end
new_cycle costs before now on whole end x =
    let n = before.size in
    let held = now.held.items in
    let b = x.searching.so_far in
    let at = spots costs before now on whole end x in
    let row : (k v : ℕ) → k ≤ x.ring.len → v < n → holds n held (after now.next.items k end) v ≡ eqb (top_of before v) (x.ring.spot k) = λ k v k_in v_in.
    ap (λ s. holds n held s v) (at k k_in) ∙ x.is.rows (x.ring.spot k) v v_in (on_other costs before now on whole end x (x.ring.spot k) (x.ring.along k k_in))
    ∙ one_node costs before now on whole end x (x.ring.spot k) v (x.ring.along k k_in) v_in in
    let holds_at : (k v : ℕ) → k ≤ x.ring.len → v < n → top_of before v ≡ x.ring.spot k → holds n held (after now.next.items k end) v ≡ true = λ k v k_in v_in is.
    row k v k_in v_in ∙ eq-eqb (top_of before v) (x.ring.spot k) is in
    let top_at : (k v : ℕ) → k ≤ x.ring.len → v < n → holds n held (after now.next.items k end) v ≡ true → top_of before v ≡ x.ring.spot k = λ k v k_in v_in on_it.
    eqb-true (top_of before v) (x.ring.spot k) (sym (row k v k_in v_in) ∙ on_it) in
    record {
      len = x.ring.len;
      odd = x.ring.odd;
      several = x.ring.several;
      closes = at x.ring.len (omega arith) ∙ x.ring.closes;
      in_slots = λ k k_in. subst (λ s. s < 2 * n) (sym (at k (omega (arith, k_in)))) (x.ring.in_slots (x.ring.spot k) (x.ring.along k (omega (arith, k_in))));
      used = λ k k_in.
          let is_on = x.ring.along k (omega (arith, k_in)) in
          ap (λ s. is_used n now.child.items s) (at k (omega (arith, k_in)))
          ∙ used_off costs before now on whole end x (x.ring.spot k) (on_other costs before now on whole end x (x.ring.spot k) is_on)
          ∙ on_used costs before now on whole end x (x.ring.spot k) is_on;
      inner = λ k v k_in v_in on_it. x.is.row v v_in ∙ ap on (top_at k v (omega (arith, k_in)) v_in on_it) ∙ x.ring.along k (omega (arith, k_in));
      covers = λ v v_in on_it.
          let w = x.ring.all (top_of before v) (sym (x.is.row v v_in) ∙ on_it) in
          (w.0, w.1, holds_at w.0 v (omega (arith, w.1)) v_in (sym w.2));
      disjoint = λ j k less k_in v v_in on_it.
          row k v (omega (arith, k_in)) v_in
          ∙ ne_eqb (top_of before v) (x.ring.spot k) (λ e. x.ring.apart j k less k_in (sym (top_at j v (omega (arith, less, k_in)) v_in on_it) ∙ e));
      links = λ k k_in.
          let t = x.ring.joins k k_in in
          let is : link_at now.link.items (after now.next.items k end) ≡ link_at now.link.items (x.ring.spot k) = ap (λ s. link_at now.link.items s) (at k (omega (arith, k_in))) in
          subst (λ p. IsLink costs n held before.halves.items p (after now.next.items k end) (after now.next.items (suc k) end)) (sym is) (record {
            inside_in = t.inside_in;
            outside_in = t.outside_in;
            leaves = holds_at k (link_at now.link.items (x.ring.spot k)).inside (omega (arith, k_in)) t.inside_in (x.ring.leaves k k_in);
            enters = holds_at (suc k) (link_at now.link.items (x.ring.spot k)).outside (omega (arith, k_in)) t.outside_in (x.ring.enters k k_in);
            tight =
                omega (
                  arith,
                  same_between costs before now on whole end x (link_at now.link.items (x.ring.spot k)).inside (link_at now.link.items (x.ring.spot k)).outside t.inside_in t.outside_in,
                  between_apart n before.held.items before.top.items before.halves.items b.tops (link_at now.link.items (x.ring.spot k)).inside (link_at now.link.items (x.ring.spot k)).outside t.inside_in t.outside_in t.apart,
                  b.weights.kept (link_at now.link.items (x.ring.spot k)).inside t.inside_in,
                  b.weights.kept (link_at now.link.items (x.ring.spot k)).outside t.outside_in,
                  t.tight,
                );
          });
    }

old_cycle : (costs : Costs) (before now : State) (on : ℕ → Bool) (whole end : ℕ) → Shrunk costs before now on whole end → (s c : ℕ) → s < 2 * before.size → s ≢ whole →
    IsCycle costs before.size before.held.items before.halves.items before.child.items before.next.items before.link.items s c →
    IsCycle costs before.size now.held.items before.halves.items now.child.items now.next.items now.link.items s c
old_cycle costs before now on whole end x s c s_in other y =
    let n = before.size in
    let b = x.searching.so_far in
    let off : (k : ℕ) → k < y.len → on (after before.next.items k c) ≡ false = λ k k_in. false_from_ne_true (on (after before.next.items k c)) (λ at.
    let w = on_top costs before now on whole end x (after before.next.items k c) at in
    child_inside costs n before.held.items before.halves.items before.top.items before.child.items before.next.items before.link.items s c b.tops b.sets s_in y k w.0 k_in w.1 w.2) in
    let not_whole : (k : ℕ) → k < y.len → after before.next.items k c ≢ whole = λ k k_in same.
    false≢true (sym (was_unused costs before now on whole end x) ∙ ap (λ z. is_used n before.child.items z) (sym same) ∙ y.used k k_in) in
    let last_other : (k : ℕ) → k ≤ y.len → after before.next.items k c ≢ whole = λ k k_in. elim (cases_eq k y.len) [
      | inl same ↦ λ e. not_whole 0 (omega (arith, y.several)) (sym (ap (λ j. after before.next.items j c) same ∙ y.closes) ∙ e)
      | inr less ↦ not_whole k (omega (arith, less, k_in))
    ] in
    cycle_moved costs n before.held.items now.held.items before.halves.items before.halves.items before.child.items now.child.items before.next.items now.next.items before.link.items now.link.items s c y
    (λ k k_in. x.is.next_off (after before.next.items k c) (off k k_in))
    (λ k k_in. x.is.link_off (after before.next.items k c) (off k k_in))
    (λ k k_in. used_off costs before now on whole end x (after before.next.items k c) (not_whole k k_in) ∙ y.used k k_in)
    (λ v v_in. x.is.rows s v v_in other)
    (λ k v k_in v_in. x.is.rows (after before.next.items k c) v v_in (last_other k k_in))
    (same_between costs before now on whole end x)

if_some_nat : (o : Option ℕ) (P Q : ℕ → Type 0) → ((p : ℕ) → P p → Q p) → IfSome o P → IfSome o Q
if_some_nat None P Q f h = tt
if_some_nat (Some p) P Q f h = f p h

pub shrunk_cycles : (costs : Costs) (before now : State) (on : ℕ → Bool) (whole end : ℕ) → Shrunk costs before now on whole end →
    AreCycles costs before.size now.held.items before.halves.items now.child.items now.next.items now.link.items
shrunk_cycles costs before now on whole end x =
    let n = before.size in
    let old = x.searching.so_far.cycles in
    let low : (s : ℕ) → s < n → s ≢ whole = λ s s_in e. absurd (omega (arith, s_in, e, x.slot.larger)) in
    record {
      single = λ s v s_in v_in at. old.single s v s_in v_in (sym (x.is.rows s v v_in (low s s_in)) ∙ at);
      no_child = λ s s_in. child_off costs before now on whole end x s (low s s_in) ∙ old.no_child s s_in;
      larger = λ s s_in. elim (cases_eq s whole) [
        | inl same ↦ subst (λ y. IfSome (child_at now.child.items y) (IsCycle costs n now.held.items before.halves.items now.child.items now.next.items now.link.items y)) (sym same)
            (subst (λ o. IfSome o (IsCycle costs n now.held.items before.halves.items now.child.items now.next.items now.link.items whole)) (sym (child_whole costs before now on whole end x))
            (new_cycle costs before now on whole end x))
        | inr other ↦ subst (λ o. IfSome o (IsCycle costs n now.held.items before.halves.items now.child.items now.next.items now.link.items s)) (sym (child_off costs before now on whole end x s other))
            (if_some_nat (child_at before.child.items s) (IsCycle costs n before.held.items before.halves.items before.child.items before.next.items before.link.items s)
            (IsCycle costs n now.held.items before.halves.items now.child.items now.next.items now.link.items s)
            (λ c y. old_cycle costs before now on whole end x s c s_in other y) (old.larger s s_in))
      ];
    }
