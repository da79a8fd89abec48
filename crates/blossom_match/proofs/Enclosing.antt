-- One node is made of an odd cycle: the matched pairs and the bases are kept.
use Rattle.std.proofs.Common.{◌≡◌, ◌≢◌, ℕ, ◌+◌, ◌*◌, ◌<◌, Bool, true, false, Some, None, IfSome, length, slice_index, sym, subst, ap, ◌∙◌, arith, inl, inr}
use Rattle.std.proofs.lemmas.Bool.{cases_eq, cases_Bool, false≢true, false_from_ne_true}
use Rattle.std.proofs.lemmas.List.{get_or-set_same, get_or-set_other}
use Rattle.std.proofs.Math.ListN.{length-set}
use Rattle.blossom_match.specs.declared.costs.Costs.{Costs}
use Rattle.blossom_match.specs.declared.state.State.{State}
use Rattle.blossom_match.specs.declared.state.Pair.{Pair}
use Rattle.blossom_match.specs.Matching.{Within}
use Rattle.blossom_match.specs.Views.{holds, mate_at, is_used, turned}
use Rattle.blossom_match.specs.Turns.{top_of}
use Rattle.blossom_match.specs.Between.{AreMatched, AreBased, IsMatched, IsTight, IsShape, IsBetween}
use Rattle.blossom_match.proofs.Moving.{if_some_map}
use Rattle.blossom_match.proofs.Shrinking.{Shrunk, no_top, on_top, on_used, used_off, held_top, top_holds, top_on, top_off, shrunk_sets, shrunk_tops, shrunk_weights, shrunk_cycles}

pub mate_whole : (costs : Costs) (before now : State) (on : ℕ → Bool) (whole end : ℕ) → Shrunk costs before now on whole end → mate_at now.mate.items whole ≡ mate_at before.mate.items end
mate_whole costs before now on whole end x =
    ap (λ l. mate_at l whole) x.is.mate ∙ get_or-set_same before.mate.items whole (mate_at before.mate.items end) None (omega (arith, x.slot.in_slots, x.searching.so_far.shape.mate_len))

pub mate_off : (costs : Costs) (before now : State) (on : ℕ → Bool) (whole end : ℕ) → Shrunk costs before now on whole end → (s : ℕ) → s ≢ whole → mate_at now.mate.items s ≡ mate_at before.mate.items s
mate_off costs before now on whole end x s other = ap (λ l. mate_at l s) x.is.mate ∙ get_or-set_other before.mate.items whole s (mate_at before.mate.items end) None other

pub end_on : (costs : Costs) (before now : State) (on : ℕ → Bool) (whole end : ℕ) → Shrunk costs before now on whole end → on end ≡ true
end_on costs before now on whole end x = ap on (sym x.ring.first) ∙ x.ring.along 0 (omega arith)

-- a node of the cycle that is matched with one that is not on it is the end
pub crosses : (costs : Costs) (before now : State) (on : ℕ → Bool) (whole end : ℕ) → Shrunk costs before now on whole end → (s t : ℕ) (p : Pair) → on s ≡ false → on t ≡ true → top_of before p.inside ≡ s →
    mate_at before.mate.items t ≡ Some (turned p) → t ≡ end
crosses costs before now on whole end x s t p off at here back = elim (cases_eq t end) [
  | inl same ↦ same
  | inr other ↦ absurd (false≢true (sym (ap on here ∙ off) ∙ x.ring.mates_on t (turned p) at other back))
]

pub tight_apart : (costs : Costs) (before now : State) (on : ℕ → Bool) (whole end : ℕ) → Shrunk costs before now on whole end → (p : Pair) → IsTight costs before.size before.top.items before.sums.items p →
    ((on (top_of before p.inside) ≡ true → on (top_of before p.outside) ≡ true → ⊥)) → IsTight costs before.size now.top.items before.sums.items p
tight_apart costs before now on whole end x p t never = record {
  inside_in = t.inside_in;
  outside_in = t.outside_in;
  apart = λ same. elim (cases_Bool (on (top_of before p.inside))) [
    | inl on_u ↦ elim (cases_Bool (on (top_of before p.outside))) [
      | inl on_v ↦ never on_u on_v
      | inr off_v ↦ no_top costs before now on whole end x p.outside t.outside_in
          (sym (top_off costs before now on whole end x p.outside t.outside_in off_v) ∙ sym same ∙ top_on costs before now on whole end x p.inside t.inside_in on_u)
    ]
    | inr off_u ↦ elim (cases_Bool (on (top_of before p.outside))) [
      | inl on_v ↦ no_top costs before now on whole end x p.inside t.inside_in
          (sym (top_off costs before now on whole end x p.inside t.inside_in off_u) ∙ same ∙ top_on costs before now on whole end x p.outside t.outside_in on_v)
      | inr off_v ↦ t.apart (sym (top_off costs before now on whole end x p.inside t.inside_in off_u) ∙ same ∙ top_off costs before now on whole end x p.outside t.outside_in off_v)
    ]
  ];
  tight = t.tight;
}

shrunk_matched : (costs : Costs) (before now : State) (on : ℕ → Bool) (whole end : ℕ) → Shrunk costs before now on whole end →
    AreMatched costs before.size now.top.items before.sums.items now.mate.items
shrunk_matched costs before now on whole end x = λ v v_in.
    let n = before.size in
    let b = x.searching.so_far in
    let mate = before.mate.items in
    let e_on = end_on costs before now on whole end x in
    let other_top : (w : ℕ) → w < n → on (top_of before w) ≡ false → mate_at now.mate.items (top_of now w) ≡ mate_at mate (top_of before w) = λ w w_in off.
    ap (λ s. mate_at now.mate.items s) (top_off costs before now on whole end x w w_in off) ∙ mate_off costs before now on whole end x (top_of before w) (no_top costs before now on whole end x w w_in) in
    elim (cases_Bool (on (top_of before v))) [
      | inl at ↦
          let w = on_top costs before now on whole end x end e_on in
          let old : IfSome (mate_at mate end) (IsMatched costs n before.top.items before.sums.items mate end) =
          subst (λ s. IfSome (mate_at mate s) (IsMatched costs n before.top.items before.sums.items mate s)) w.2 (b.matched w.0 w.1) in
          subst (λ s. IfSome (mate_at now.mate.items s) (IsMatched costs n now.top.items before.sums.items now.mate.items s)) (sym (top_on costs before now on whole end x v v_in at))
          (subst (λ o. IfSome o (IsMatched costs n now.top.items before.sums.items now.mate.items whole)) (sym (mate_whole costs before now on whole end x))
          (if_some_map (mate_at mate end) (IsMatched costs n before.top.items before.sums.items mate end) (IsMatched costs n now.top.items before.sums.items now.mate.items whole)
          (λ p is m.
          let out = x.ring.end_off p is in
          record {
            tight = tight_apart costs before now on whole end x p m.tight (λ i o. false≢true (sym out ∙ o));
            here = top_on costs before now on whole end x p.inside m.tight.inside_in (ap on m.here ∙ e_on);
            back = other_top p.outside m.tight.outside_in out ∙ m.back;
          }) old))
      | inr off ↦
          subst (λ s. IfSome (mate_at now.mate.items s) (IsMatched costs n now.top.items before.sums.items now.mate.items s)) (sym (top_off costs before now on whole end x v v_in off))
          (subst (λ o. IfSome o (IsMatched costs n now.top.items before.sums.items now.mate.items (top_of before v))) (sym (mate_off costs before now on whole end x (top_of before v) (no_top costs before now on whole end x v v_in)))
          (if_some_map (mate_at mate (top_of before v)) (IsMatched costs n before.top.items before.sums.items mate (top_of before v)) (IsMatched costs n now.top.items before.sums.items now.mate.items (top_of before v))
          (λ p is m.
          let here_off : on (top_of before p.inside) ≡ false = ap on m.here ∙ off in
          record {
            tight = tight_apart costs before now on whole end x p m.tight (λ i o. false≢true (sym here_off ∙ i));
            here = top_off costs before now on whole end x p.inside m.tight.inside_in here_off ∙ m.here;
            back = elim (cases_Bool (on (top_of before p.outside))) [
              | inr out ↦ other_top p.outside m.tight.outside_in out ∙ m.back
              | inl out ↦
                  ap (λ s. mate_at now.mate.items s) (top_on costs before now on whole end x p.outside m.tight.outside_in out)
                  ∙ mate_whole costs before now on whole end x
                  ∙ ap (λ s. mate_at mate s) (sym (crosses costs before now on whole end x (top_of before v) (top_of before p.outside) p off out m.here m.back)) ∙ m.back
            ];
          }) (b.matched v v_in)))
    ]

-- the slot is named by no base but one that lies in the new node
shrunk_based : (costs : Costs) (before now : State) (on : ℕ → Bool) (whole end : ℕ) → Shrunk costs before now on whole end → AreBased before.size now.held.items now.child.items now.base.items
shrunk_based costs before now on whole end x =
    let n = before.size in
    let b = x.searching.so_far in
    let old = b.based in
    let base = before.base.items in
    let e_on = end_on costs before now on whole end x in
    let e_in = x.ring.in_slots end e_on in
    let e_used = on_used costs before now on whole end x end e_on in
    let base_at : slice_index now.base.items whole ≡ slice_index base end =
    ap (λ l. slice_index l whole) x.is.base ∙ get_or-set_same base whole (slice_index base end) 0 (omega (arith, x.slot.in_slots, b.shape.base_len)) in
    let base_off : (s : ℕ) → s ≢ whole → slice_index now.base.items s ≡ slice_index base s = λ s other. ap (λ l. slice_index l s) x.is.base ∙ get_or-set_other base whole s (slice_index base end) 0 other in
    let part_in = x.ring.in_slots x.slot.part x.slot.part_on in
    let part_used = on_used costs before now on whole end x x.slot.part x.slot.part_on in
    let top_base : (s : ℕ) → on s ≡ true → top_of before (slice_index base s) ≡ s = λ s at.
    let w = on_top costs before now on whole end x s at in
    held_top costs before b s w.0 (slice_index base s) w.1 (old.base_in s (x.ring.in_slots s at) (on_used costs before now on whole end x s at)) w.2
    (old.own s (x.ring.in_slots s at) (on_used costs before now on whole end x s at)) in
    -- the slot of the base of an outermost node was not used
    let unclaimed : (s : ℕ) → on s ≡ true → is_used n before.child.items (n + slice_index base s) ≡ true → ⊥ = λ s at used.
    let s_in = x.ring.in_slots s at in
    let s_used = on_used costs before now on whole end x s at in
    let c = old.claimed s s_in s_used used in
    let w = on_top costs before now on whole end x s at in
    let t_in : n + slice_index base s < 2 * n = omega (arith, old.base_in s s_in s_used) in
    let held_w = c.1 w.0 w.1 (top_holds costs before b s w.0 w.1 w.2) in
    b.sets.distinct s (n + slice_index base s) s_in t_in s_used used c.0 (λ v v_in. elim (cases_Bool (holds n before.held.items s v)) [
      | inl here ↦ here ∙ sym (c.1 v v_in here)
      | inr off ↦ off ∙ sym (false_from_ne_true (holds n before.held.items (n + slice_index base s) v) (λ there.
          false≢true (sym off ∙ top_holds costs before b s v v_in (b.tops.inside (n + slice_index base s) v w.0 t_in v_in w.1 there held_w ∙ w.2))))
    ]) in
    let claimed_old : (s : ℕ) → s < 2 * n → s ≢ whole → is_used n now.child.items s ≡ true → is_used n now.child.items (n + slice_index base s) ≡ true →
    (s ≢ n + slice_index base s) × Within n (holds n now.held.items s) (holds n now.held.items (n + slice_index base s)) = λ s s_in other used claims.
    let s_used = sym (used_off costs before now on whole end x s other) ∙ used in
    elim (cases_eq (n + slice_index base s) whole) [
      | inl same ↦ (
        λ e. other (e ∙ same),
        (let alike : slice_index base s ≡ slice_index base x.slot.part = omega (arith, same, x.slot.named) in
            let in_base = old.base_in s s_in s_used in
            let tops_alike : top_of before (slice_index base s) ≡ x.slot.part = ap (λ y. top_of before y) alike ∙ top_base x.slot.part x.slot.part_on in
            λ v v_in at. ap (λ y. holds n now.held.items y v) same ∙ x.is.row v v_in
            ∙ ap on (b.tops.inside s v (slice_index base s) s_in v_in in_base (sym (x.is.rows s v v_in other) ∙ at) (old.own s s_in s_used) ∙ tops_alike) ∙ x.slot.part_on),
      )
      | inr differs ↦
          let c = old.claimed s s_in s_used (sym (used_off costs before now on whole end x (n + slice_index base s) differs) ∙ claims) in
          (c.0, λ v v_in at. x.is.rows (n + slice_index base s) v v_in differs ∙ c.1 v v_in (sym (x.is.rows s v v_in other) ∙ at))
    ] in
    record {
      base_in = λ s s_in used. elim (cases_eq s whole) [
        | inl same ↦ omega (arith, ap (λ y. slice_index now.base.items y) same, base_at, old.base_in end e_in e_used)
        | inr other ↦ omega (arith, base_off s other, old.base_in s s_in (sym (used_off costs before now on whole end x s other) ∙ used))
      ];
      own = λ s s_in used. elim (cases_eq s whole) [
        | inl same ↦
            let at : slice_index now.base.items s ≡ slice_index base end = ap (λ y. slice_index now.base.items y) same ∙ base_at in
            ap (λ y. holds n now.held.items y (slice_index now.base.items s)) same ∙ ap (λ y. holds n now.held.items whole y) at
            ∙ x.is.row (slice_index base end) (old.base_in end e_in e_used) ∙ ap on (top_base end e_on) ∙ e_on
        | inr other ↦
            let s_used = sym (used_off costs before now on whole end x s other) ∙ used in
            ap (λ y. holds n now.held.items s y) (base_off s other) ∙ x.is.rows s (slice_index base s) (old.base_in s s_in s_used) other ∙ old.own s s_in s_used
      ];
      claimed = λ s s_in used claims. elim (cases_eq s whole) [
        | inl same ↦
            let at : slice_index now.base.items s ≡ slice_index base end = ap (λ y. slice_index now.base.items y) same ∙ base_at in
            let differs : n + slice_index base end ≢ whole = λ e.
            (let alike : slice_index base end ≡ slice_index base x.slot.part = omega (arith, e, x.slot.named) in
            x.slot.part_other (sym (top_base x.slot.part x.slot.part_on) ∙ ap (λ y. top_of before y) (sym alike) ∙ top_base end e_on)) in
            absurd (unclaimed end e_on (sym (used_off costs before now on whole end x (n + slice_index base end) differs) ∙ ap (λ y. is_used n now.child.items (n + y)) (sym at) ∙ claims))
        | inr other ↦ subst (λ y. (s ≢ n + y) × Within n (holds n now.held.items s) (holds n now.held.items (n + y))) (sym (base_off s other))
            (claimed_old s s_in other used (ap (λ y. is_used n now.child.items (n + y)) (sym (base_off s other)) ∙ claims))
      ];
    }

shrunk_shape : (costs : Costs) (before now : State) (on : ℕ → Bool) (whole end : ℕ) → Shrunk costs before now on whole end → IsShape costs now
shrunk_shape costs before now on whole end x =
    let s = x.searching.so_far.shape in
    record {
      size_is = x.is.size ∙ s.size_is;
      held_len = x.is.held_len ∙ rw x.is.size s.held_len;
      halves_len = rw (x.is.halves, x.is.size) s.halves_len;
      top_len = x.is.top_len ∙ rw x.is.size s.top_len;
      sums_len = rw (x.is.sums, x.is.size) s.sums_len;
      child_len = ap length x.is.child ∙ length-set before.child.items whole (Some end) ∙ rw x.is.size s.child_len;
      next_len = x.is.next_len ∙ rw x.is.size s.next_len;
      link_len = x.is.link_len ∙ rw x.is.size s.link_len;
      mate_len = ap length x.is.mate ∙ length-set before.mate.items whole (mate_at before.mate.items end) ∙ rw x.is.size s.mate_len;
      label_len = x.is.label_len ∙ rw x.is.size s.label_len;
      entry_len = rw (x.is.entry, x.is.size) s.entry_len;
      one_way_len = x.is.one_way_len ∙ rw x.is.size s.one_way_len;
      other_way_len = x.is.other_way_len ∙ rw x.is.size s.other_way_len;
      base_len = ap length x.is.base ∙ length-set before.base.items whole (slice_index before.base.items end) ∙ rw x.is.size s.base_len;
    }

pub shrunk_between : (costs : Costs) (before now : State) (on : ℕ → Bool) (whole end : ℕ) → Shrunk costs before now on whole end → IsBetween costs now
shrunk_between costs before now on whole end x = record {
  shape = shrunk_shape costs before now on whole end x;
  sets = rw (x.is.size, x.is.halves) (shrunk_sets costs before now on whole end x);
  tops = rw x.is.size (shrunk_tops costs before now on whole end x);
  weights = rw (x.is.size, x.is.halves, x.is.sums) (shrunk_weights costs before now on whole end x);
  cycles = rw (x.is.size, x.is.halves) (shrunk_cycles costs before now on whole end x);
  matched = rw (x.is.size, x.is.sums) (shrunk_matched costs before now on whole end x);
  based = rw x.is.size (shrunk_based costs before now on whole end x);
}
