-- One node is made of an odd cycle: the tree is kept, and less is left to do.
use Rattle.std.proofs.Common.{◌≡◌, ◌≢◌, ◌⊎◌, ℕ, ◌*◌, ◌<◌, Bool, true, false, cond, eqb, Option, Some, None, IfSome, IsSome, IsSomeAnd, slice_index, refl, sym, subst, ap, ◌∙◌, arith, inl, inr}
use Rattle.std.proofs.lemmas.Bool.{cases_eq, cases_Bool, false≢true, eq-eqb, ne_eqb}
use Rattle.blossom_match.specs.declared.costs.Costs.{Costs}
use Rattle.blossom_match.specs.declared.state.State.{State}
use Rattle.blossom_match.specs.declared.state.Pair.{Pair}
use Rattle.blossom_match.specs.declared.state.Label.{Label}
use Rattle.blossom_match.specs.declared.state.Label.TheVariants.{Free, Outer, Inner}
use Rattle.blossom_match.specs.Views.{label_at, mate_at, link_at, is_outer, to_do}
use Rattle.blossom_match.specs.Turns.{top_of, label_of}
use Rattle.blossom_match.specs.Growth.{IsGrowth}
use Rattle.blossom_match.specs.Between.{IsMatched, IsTree, IsReached, IsSearching, KeepsRoot}
use Rattle.blossom_match.proofs.Measuring.{total-less, one_le, less_to_do}
use Rattle.blossom_match.proofs.Moving.{if_some_map, is_some_map, is_some_at, some_not_none}
use Rattle.blossom_match.proofs.Growing.{if_some_at}
use Rattle.blossom_match.proofs.Limits.{some_value}
use Rattle.blossom_match.proofs.Shrinking.{Shrunk, no_top, on_top, top_on, top_off}
use Rattle.blossom_match.proofs.Enclosing.{mate_whole, mate_off, end_on, crosses, tight_apart, shrunk_between}

outer_inner : Outer ≡ Inner → ⊥
outer_inner e = cc

free_inner : Free ≡ Inner → ⊥
free_inner e = cc

free_outer : Free ≡ Outer → ⊥
free_outer e = cc

label_off : (costs : Costs) (before now : State) (on : ℕ → Bool) (whole end : ℕ) → Shrunk costs before now on whole end → (s : ℕ) → s ≢ whole → on s ≡ false → label_of now s ≡ label_of before s
label_off costs before now on whole end x s other off = x.is.labels s other ∙ ap (λ b. cond b Free (label_of before s)) off

label_on : (costs : Costs) (before now : State) (on : ℕ → Bool) (whole end : ℕ) → Shrunk costs before now on whole end → (s : ℕ) → s ≢ whole → on s ≡ true → label_of now s ≡ Free
label_on costs before now on whole end x s other at = x.is.labels s other ∙ ap (λ b. cond b Free (label_of before s)) at

-- where a label stands now
label_now : (costs : Costs) (before now : State) (on : ℕ → Bool) (whole end : ℕ) → Shrunk costs before now on whole end → (s : ℕ) → label_of now s ≢ Free →
    (s ≡ whole) ⊎ ((s ≢ whole) × (on s ≡ false) × (label_of now s ≡ label_of before s))
label_now costs before now on whole end x s labelled = elim (cases_eq s whole) [
  | inl same ↦ inl same
  | inr other ↦ elim (cases_Bool (on s)) [
    | inl at ↦ absurd (labelled (label_on costs before now on whole end x s other at))
    | inr off ↦ inr (other, off, label_off costs before now on whole end x s other off)
  ]
]

inner_now : (costs : Costs) (before now : State) (on : ℕ → Bool) (whole end : ℕ) → Shrunk costs before now on whole end → (s : ℕ) → label_of now s ≡ Inner →
    (s ≢ whole) × (on s ≡ false) × (label_of before s ≡ Inner)
inner_now costs before now on whole end x s inner = elim (label_now costs before now on whole end x s (λ free. free_inner (sym free ∙ inner))) [
  | inl same ↦ absurd (outer_inner (sym x.is.label ∙ ap (λ y. label_of now y) (sym same) ∙ inner))
  | inr is ↦ (is.0, is.1, sym is.2 ∙ inner)
]

-- an outer node stays outer, by itself or as part of the new one
outer_stays : (costs : Costs) (before now : State) (on : ℕ → Bool) (whole end : ℕ) → Shrunk costs before now on whole end → (v : ℕ) → v < before.size → label_of before (top_of before v) ≡ Outer → label_of now (top_of now v) ≡ Outer
outer_stays costs before now on whole end x v v_in outer = elim (cases_Bool (on (top_of before v))) [
  | inl at ↦ ap (λ s. label_of now s) (top_on costs before now on whole end x v v_in at) ∙ x.is.label
  | inr off ↦ ap (λ s. label_of now s) (top_off costs before now on whole end x v v_in off) ∙ label_off costs before now on whole end x (top_of before v) (no_top costs before now on whole end x v v_in) off ∙ outer
]

pub mate_cases : (o : Option Pair) → (o ≡ None) ⊎ ((p : Pair) × (o ≡ Some p))
mate_cases None = inl refl
mate_cases (Some p) = inr (p, refl)

none_and : (P : Pair → Type 0) (o : Option Pair) → o ≡ None → IsSomeAnd o P → ⊥
none_and P o none has = subst (λ y. IsSomeAnd y P) none has

-- where the end has no mate, it is the root's node
end_root : (costs : Costs) (before now : State) (on : ℕ → Bool) (whole end : ℕ) → Shrunk costs before now on whole end → mate_at before.mate.items end ≡ None → end ≡ top_of before before.root
end_root costs before now on whole end x none = elim (x.searching.tree.outer end (x.ring.in_slots end (end_on costs before now on whole end x)) x.ring.end_outer) [
  | inl root ↦ root
  | inr some ↦ absurd (none_and (λ p. label_at before.label.items (slice_index before.top.items p.outside) ≡ Inner) (mate_at before.mate.items end) none some)
]

-- the mate of an outer node is inner, and stays so where it is not on the cycle
mate_inner : (costs : Costs) (before now : State) (on : ℕ → Bool) (whole end : ℕ) → Shrunk costs before now on whole end → (s : ℕ) (p : Pair) → s < 2 * before.size → label_of before s ≡ Outer →
    mate_at before.mate.items s ≡ Some p → p.outside < before.size → on (top_of before p.outside) ≡ false → label_of now (top_of now p.outside) ≡ Inner
mate_inner costs before now on whole end x s p s_in outer is p_in off = elim (x.searching.tree.outer s s_in outer) [
  | inl root ↦ absurd (some_not_none p (sym is ∙ ap (λ y. mate_at before.mate.items y) root ∙ x.searching.tree.root_open))
  | inr some ↦
      ap (λ y. label_of now y) (top_off costs before now on whole end x p.outside p_in off)
      ∙ label_off costs before now on whole end x (top_of before p.outside) (no_top costs before now on whole end x p.outside p_in) off
      ∙ is_some_at (mate_at before.mate.items s) (λ q. label_at before.label.items (slice_index before.top.items q.outside) ≡ Inner) p is some
]

pub matched_at : (costs : Costs) (before : State) → IsSearching costs before → (s : ℕ) (p : Pair) → s < 2 * before.size → label_of before s ≢ Free → mate_at before.mate.items s ≡ Some p →
    IsMatched costs before.size before.top.items before.sums.items before.mate.items s p
matched_at costs before searching s p s_in labelled is =
    let w = searching.tree.outermost s s_in labelled in
    if_some_at (mate_at before.mate.items s) (IsMatched costs before.size before.top.items before.sums.items before.mate.items s) p is
    (subst (λ y. IfSome (mate_at before.mate.items y) (IsMatched costs before.size before.top.items before.sums.items before.mate.items y)) w.2 (searching.so_far.matched w.0 w.1))

-- an outer node off the cycle has its mate off the cycle
mate_off_cycle : (costs : Costs) (before now : State) (on : ℕ → Bool) (whole end : ℕ) → Shrunk costs before now on whole end → (s : ℕ) (p : Pair) → on s ≡ false →
    IsMatched costs before.size before.top.items before.sums.items before.mate.items s p → label_of before (top_of before p.outside) ≡ Inner → on (top_of before p.outside) ≡ false
mate_off_cycle costs before now on whole end x s p off m inner = elim (cases_Bool (on (top_of before p.outside))) [
  | inr is ↦ is
  | inl at ↦ absurd (outer_inner (sym x.ring.end_outer ∙ ap (λ y. label_of before y) (sym (crosses costs before now on whole end x s (top_of before p.outside) p off at m.here m.back)) ∙ inner))
]

shrunk_outer : (costs : Costs) (before now : State) (on : ℕ → Bool) (whole end : ℕ) → Shrunk costs before now on whole end → (s : ℕ) → s < 2 * before.size → label_of now s ≡ Outer →
    (s ≡ top_of now before.root) ⊎ IsSomeAnd (mate_at now.mate.items s) (λ p. label_of now (top_of now p.outside) ≡ Inner)
shrunk_outer costs before now on whole end x s s_in outer = elim (label_now costs before now on whole end x s (λ free. free_outer (sym free ∙ outer))) [
  | inl same ↦ elim (mate_cases (mate_at before.mate.items end)) [
    | inl none ↦
        let root = end_root costs before now on whole end x none in
        inl (same ∙ sym (top_on costs before now on whole end x before.root x.searching.tree.root_in (ap on (sym root) ∙ end_on costs before now on whole end x)))
    | inr some ↦
        let e_on = end_on costs before now on whole end x in
        let e_in = x.ring.in_slots end e_on in
        let m = matched_at costs before x.searching end some.0 e_in (x.ring.labelled end e_on) some.1 in
        inr (subst (λ o. IsSomeAnd o (λ p. label_of now (top_of now p.outside) ≡ Inner)) (sym (ap (λ y. mate_at now.mate.items y) same ∙ mate_whole costs before now on whole end x ∙ some.1))
        (mate_inner costs before now on whole end x end some.0 e_in x.ring.end_outer some.1 m.tight.outside_in (x.ring.end_off some.0 some.1)))
  ]
  | inr is ↦
      let was : label_of before s ≡ Outer = sym is.2 ∙ outer in
      elim (x.searching.tree.outer s s_in was) [
        | inl root ↦ inl (root ∙ sym (top_off costs before now on whole end x before.root x.searching.tree.root_in (ap on (sym root) ∙ is.1)))
        | inr some ↦
            let q = some_value (mate_at before.mate.items s) (λ p. label_at before.label.items (slice_index before.top.items p.outside) ≡ Inner) some in
            let m = matched_at costs before x.searching s q.0 s_in (λ free. free_outer (sym free ∙ was)) q.1 in
            inr (subst (λ o. IsSomeAnd o (λ p. label_of now (top_of now p.outside) ≡ Inner)) (sym (mate_off costs before now on whole end x s is.0 ∙ q.1))
            (mate_inner costs before now on whole end x s q.0 s_in was q.1 m.tight.outside_in (mate_off_cycle costs before now on whole end x s q.0 is.1 m q.2)))
      ]
]

-- the entry and the mate of an inner node do not both lead to the cycle
never_both : (costs : Costs) (before now : State) (on : ℕ → Bool) (whole end : ℕ) → (x : Shrunk costs before now on whole end) → (s : ℕ) (p : Pair) → on s ≡ false →
    IsMatched costs before.size before.top.items before.sums.items before.mate.items s p →
    x.searching.tree.depth (top_of before (link_at before.entry.items s).outside) < x.searching.tree.depth (top_of before p.outside) →
    label_of before (top_of before (link_at before.entry.items s).outside) ≡ Outer →
    on (top_of before (link_at before.entry.items s).outside) ≡ true → on (top_of before p.outside) ≡ true → ⊥
never_both costs before now on whole end x s p off m deeper outer at_e at_p =
    let is = crosses costs before now on whole end x s (top_of before p.outside) p off at_p m.here m.back in
    let low = x.ring.low (top_of before (link_at before.entry.items s).outside) at_e outer in
    let same = ap (λ y. x.searching.tree.depth y) is in
    omega (arith, deeper, low, same)

at_whole : (depth : ℕ → ℕ) (whole end s : ℕ) → s ≡ whole → cond (eqb s whole) (depth end) (depth s) ≡ depth end
at_whole depth whole end s same = ap (λ b. cond b (depth end) (depth s)) (eq-eqb s whole same)

not_whole : (depth : ℕ → ℕ) (whole end s : ℕ) → s ≢ whole → cond (eqb s whole) (depth end) (depth s) ≡ depth s
not_whole depth whole end s other = ap (λ b. cond b (depth end) (depth s)) (ne_eqb s whole other)

shrunk_deeper : (costs : Costs) (before now : State) (on : ℕ → Bool) (whole end : ℕ) → (x : Shrunk costs before now on whole end) → (s : ℕ) (p : Pair) → on s ≡ false →
    IsMatched costs before.size before.top.items before.sums.items before.mate.items s p → (link_at before.entry.items s).outside < before.size →
    x.searching.tree.depth (top_of before (link_at before.entry.items s).outside) < x.searching.tree.depth (top_of before p.outside) →
    label_of before (top_of before (link_at before.entry.items s).outside) ≡ Outer →
    cond (eqb (top_of now (link_at before.entry.items s).outside) whole) (x.searching.tree.depth end) (x.searching.tree.depth (top_of now (link_at before.entry.items s).outside))
    < cond (eqb (top_of now p.outside) whole) (x.searching.tree.depth end) (x.searching.tree.depth (top_of now p.outside))
shrunk_deeper costs before now on whole end x s p off m e_in deeper outer =
    let depth = x.searching.tree.depth in
    let e : ℕ = (link_at before.entry.items s).outside in
    elim (cases_Bool (on (top_of before (link_at before.entry.items s).outside))) [
      | inl at_e ↦ elim (cases_Bool (on (top_of before p.outside))) [
        | inl at_p ↦ absurd (never_both costs before now on whole end x s p off m deeper outer at_e at_p)
        | inr off_p ↦
            let here = at_whole depth whole end (top_of now (link_at before.entry.items s).outside) (top_on costs before now on whole end x (link_at before.entry.items s).outside e_in at_e) in
            let is = top_off costs before now on whole end x p.outside m.tight.outside_in off_p in
            let there = not_whole depth whole end (top_of now p.outside) (λ w. no_top costs before now on whole end x p.outside m.tight.outside_in (sym is ∙ w)) in
            let low = x.ring.low (top_of before (link_at before.entry.items s).outside) at_e outer in
            omega (arith, here, there, ap depth is, low, deeper)
      ]
      | inr off_e ↦
          let is_e = top_off costs before now on whole end x (link_at before.entry.items s).outside e_in off_e in
          let here = not_whole depth whole end (top_of now (link_at before.entry.items s).outside) (λ w. no_top costs before now on whole end x (link_at before.entry.items s).outside e_in (sym is_e ∙ w)) in
          elim (cases_Bool (on (top_of before p.outside))) [
            | inl at_p ↦
                let there = at_whole depth whole end (top_of now p.outside) (top_on costs before now on whole end x p.outside m.tight.outside_in at_p) in
                let is = crosses costs before now on whole end x s (top_of before p.outside) p off at_p m.here m.back in
                omega (arith, here, there, ap depth is_e, ap depth is, deeper)
            | inr off_p ↦
                let is = top_off costs before now on whole end x p.outside m.tight.outside_in off_p in
                let there = not_whole depth whole end (top_of now p.outside) (λ w. no_top costs before now on whole end x p.outside m.tight.outside_in (sym is ∙ w)) in
                omega (arith, here, there, ap depth is_e, ap depth is, deeper)
          ]
    ]

-- how an inner node off the cycle was reached
shrunk_reached : (costs : Costs) (before now : State) (on : ℕ → Bool) (whole end : ℕ) → (x : Shrunk costs before now on whole end) → (s : ℕ) (p : Pair) → s < 2 * before.size → s ≢ whole → on s ≡ false → label_of before s ≡ Inner →
    mate_at before.mate.items s ≡ Some p →
    IsReached costs before.size before.top.items before.sums.items before.label.items (link_at before.entry.items s) s p →
    IsReached costs before.size now.top.items before.sums.items now.label.items (link_at before.entry.items s) s p
shrunk_reached costs before now on whole end x s p s_in other off inner is r =
    let m = matched_at costs before x.searching s p s_in (λ free. free_inner (sym free ∙ inner)) is in
    let deeper = if_some_at (mate_at before.mate.items s) (λ q. x.searching.tree.depth (slice_index before.top.items (link_at before.entry.items s).outside) < x.searching.tree.depth (slice_index before.top.items q.outside)) p is
    (x.searching.tree.deeper s s_in inner) in
    let inside_off : on (top_of before (link_at before.entry.items s).inside) ≡ false = ap on r.entry_here ∙ off in
    record {
      entry_tight = tight_apart costs before now on whole end x (link_at before.entry.items s) r.entry_tight (λ i o. false≢true (sym inside_off ∙ i));
      entry_here = top_off costs before now on whole end x (link_at before.entry.items s).inside r.entry_tight.inside_in inside_off ∙ r.entry_here;
      above = outer_stays costs before now on whole end x (link_at before.entry.items s).outside r.entry_tight.outside_in r.above;
      below = outer_stays costs before now on whole end x p.outside m.tight.outside_in r.below;
      forks = λ same. elim (cases_Bool (on (top_of before (link_at before.entry.items s).outside))) [
        | inl at_e ↦ elim (cases_Bool (on (top_of before p.outside))) [
          | inl at_p ↦ never_both costs before now on whole end x s p off m deeper r.above at_e at_p
          | inr off_p ↦ no_top costs before now on whole end x p.outside m.tight.outside_in
              (sym (top_off costs before now on whole end x p.outside m.tight.outside_in off_p) ∙ sym same ∙ top_on costs before now on whole end x (link_at before.entry.items s).outside r.entry_tight.outside_in at_e)
        ]
        | inr off_e ↦ elim (cases_Bool (on (top_of before p.outside))) [
          | inl at_p ↦ no_top costs before now on whole end x (link_at before.entry.items s).outside r.entry_tight.outside_in
              (sym (top_off costs before now on whole end x (link_at before.entry.items s).outside r.entry_tight.outside_in off_e) ∙ same ∙ top_on costs before now on whole end x p.outside m.tight.outside_in at_p)
          | inr off_p ↦ r.forks (sym (top_off costs before now on whole end x (link_at before.entry.items s).outside r.entry_tight.outside_in off_e) ∙ same ∙ top_off costs before now on whole end x p.outside m.tight.outside_in off_p)
        ]
      ];
    }

-- a labelled node of a member now was labelled before
label_was : (costs : Costs) (before now : State) (on : ℕ → Bool) (whole end : ℕ) → Shrunk costs before now on whole end → (v : ℕ) → v < before.size → label_of now (top_of now v) ≢ Free → label_of before (top_of before v) ≢ Free
label_was costs before now on whole end x v v_in labelled = elim (cases_Bool (on (top_of before v))) [
  | inl at ↦ x.ring.labelled (top_of before v) at
  | inr off ↦ λ free. labelled (
      ap (λ s. label_of now s) (top_off costs before now on whole end x v v_in off)
      ∙ label_off costs before now on whole end x (top_of before v) (no_top costs before now on whole end x v v_in) off
      ∙ free)
]

shrunk_tree : (costs : Costs) (before now : State) (on : ℕ → Bool) (whole end : ℕ) → Shrunk costs before now on whole end →
    IsTree costs before.size now.top.items before.sums.items now.mate.items now.label.items before.entry.items before.root
shrunk_tree costs before now on whole end x =
    let tree = x.searching.tree in
    let e_on = end_on costs before now on whole end x in
    record {
      root_in = tree.root_in;
      root_outer = outer_stays costs before now on whole end x before.root tree.root_in tree.root_outer;
      root_open = elim (cases_Bool (on (top_of before before.root))) [
        | inr off ↦
            ap (λ s. mate_at now.mate.items s) (top_off costs before now on whole end x before.root tree.root_in off)
            ∙ mate_off costs before now on whole end x (top_of before before.root) (no_top costs before now on whole end x before.root tree.root_in) ∙ tree.root_open
        | inl at ↦
            ap (λ s. mate_at now.mate.items s) (top_on costs before now on whole end x before.root tree.root_in at) ∙ mate_whole costs before now on whole end x
            ∙ elim (cases_eq (top_of before before.root) end) [
              | inl same ↦ ap (λ s. mate_at before.mate.items s) (sym same) ∙ tree.root_open
              | inr other ↦ absurd (none_some (mate_at before.mate.items (top_of before before.root)) tree.root_open (x.ring.matched (top_of before before.root) at other))
            ]
      ];
      outermost = λ s s_in labelled. elim (label_now costs before now on whole end x s labelled) [
        | inl same ↦ (let w = on_top costs before now on whole end x end e_on in (w.0, w.1, top_on costs before now on whole end x w.0 w.1 (ap on w.2 ∙ e_on) ∙ sym same))
        | inr is ↦ (let w = tree.outermost s s_in (λ free. labelled (is.2 ∙ free)) in (w.0, w.1, top_off costs before now on whole end x w.0 w.1 (ap on w.2 ∙ is.1) ∙ w.2))
      ];
      outer = shrunk_outer costs before now on whole end x;
      inner = λ s s_in inner.
          let is = inner_now costs before now on whole end x s inner in
          subst (λ o. IsSomeAnd o (IsReached costs before.size now.top.items before.sums.items now.label.items (link_at before.entry.items s) s)) (sym (mate_off costs before now on whole end x s is.0))
          (is_some_map (mate_at before.mate.items s) (IsReached costs before.size before.top.items before.sums.items before.label.items (link_at before.entry.items s) s)
          (IsReached costs before.size now.top.items before.sums.items now.label.items (link_at before.entry.items s) s)
          (λ p p_is r. shrunk_reached costs before now on whole end x s p s_in is.0 is.1 is.2 p_is r) (tree.inner s s_in is.2));
      parity = λ u v u_in v_in at_u at_v. tree.parity u v u_in v_in (label_was costs before now on whole end x u u_in at_u) (label_was costs before now on whole end x v v_in at_v);
      depth = λ s. cond (eqb s whole) (tree.depth end) (tree.depth s);
      deeper = λ s s_in inner.
          let is = inner_now costs before now on whole end x s inner in
          subst (λ o. IfSome o (λ p. cond (eqb (top_of now (link_at before.entry.items s).outside) whole) (tree.depth end) (tree.depth (top_of now (link_at before.entry.items s).outside))
          < cond (eqb (top_of now p.outside) whole) (tree.depth end) (tree.depth (top_of now p.outside)))) (sym (mate_off costs before now on whole end x s is.0))
          (if_some_map (mate_at before.mate.items s) (λ p. tree.depth (slice_index before.top.items (link_at before.entry.items s).outside) < tree.depth (slice_index before.top.items p.outside))
          (λ p. cond (eqb (top_of now (link_at before.entry.items s).outside) whole) (tree.depth end) (tree.depth (top_of now (link_at before.entry.items s).outside))
          < cond (eqb (top_of now p.outside) whole) (tree.depth end) (tree.depth (top_of now p.outside)))
          (λ p p_is less.
          let r = is_some_at (mate_at before.mate.items s) (IsReached costs before.size before.top.items before.sums.items before.label.items (link_at before.entry.items s) s) p p_is (tree.inner s s_in is.2) in
          let m = matched_at costs before x.searching s p s_in (λ free. free_inner (sym free ∙ is.2)) p_is in
          shrunk_deeper costs before now on whole end x s p is.1 m r.entry_tight.outside_in less r.above) (tree.deeper s s_in is.2));
    }
  where
    none_some : (o : Option Pair) → o ≡ None → IsSome o → ⊥
    none_some o none some = false≢true (subst (λ y. IsSome y) none some)

pub shrunk_searching : (costs : Costs) (before now : State) (on : ℕ → Bool) (whole end : ℕ) → Shrunk costs before now on whole end → IsSearching costs now
shrunk_searching costs before now on whole end x = record {
  so_far = shrunk_between costs before now on whole end x;
  tree = rw (x.is.size, x.is.sums, x.is.entry, x.is.root) (shrunk_tree costs before now on whole end x);
}

is_less : (l m : Label) → l ≡ Inner → m ≡ Outer → cond {A = ℕ} (is_outer l) 1 0 < cond {A = ℕ} (is_outer m) 1 0
is_less l m inner outer = subst (λ y. cond {A = ℕ} (is_outer y) 1 0 < cond {A = ℕ} (is_outer m) 1 0) (sym inner) (subst (λ y. 0 < cond {A = ℕ} (is_outer y) 1 0) (sym outer) (omega arith))

pub shrunk_less : (costs : Costs) (before now : State) (on : ℕ → Bool) (whole end : ℕ) → Shrunk costs before now on whole end → to_do now < to_do before
shrunk_less costs before now on whole end x =
    let i = x.ring.has_inner in
    let w = on_top costs before now on whole end x i.0 i.1 in
    less_to_do before now x.is.size (rw x.is.size
    (total-less before.size (λ v. cond (is_outer (label_at before.label.items (slice_index before.top.items v))) 1 0) (λ v. cond (is_outer (label_at now.label.items (slice_index now.top.items v))) 1 0) w.0
    (λ v v_in. one_le (label_at before.label.items (slice_index before.top.items v)) (label_at now.label.items (slice_index now.top.items v)) (outer_stays costs before now on whole end x v v_in)) w.1
    (is_less (label_of before (top_of before w.0)) (label_of now (top_of now w.0)) (ap (λ s. label_of before s) w.2 ∙ i.2)
    (ap (λ s. label_of now s) (top_on costs before now on whole end x w.0 w.1 (ap on w.2 ∙ i.1)) ∙ x.is.label))))

pub shrunk_keeps : (costs : Costs) (before now : State) (on : ℕ → Bool) (whole end : ℕ) → Shrunk costs before now on whole end → KeepsRoot before now
shrunk_keeps costs before now on whole end x =
    let root_in = x.searching.tree.root_in in
    let at_root : top_of now now.root ≡ top_of now before.root = ap (λ r. top_of now r) x.is.root in
    record {
      size = x.is.size;
      root = x.is.root;
      kept = λ w w_in has. elim (cases_Bool (on (top_of before w))) [
        | inr off ↦ inl (subst (λ o. IsSome o)
            (sym (ap (λ s. mate_at now.mate.items s) (top_off costs before now on whole end x w w_in off) ∙ mate_off costs before now on whole end x (top_of before w) (no_top costs before now on whole end x w w_in))) has)
        | inl at ↦
            let here = top_on costs before now on whole end x w w_in at in
            elim (mate_cases (mate_at before.mate.items end)) [
              | inl none ↦
                  let root = end_root costs before now on whole end x none in
                  inr (here ∙ sym (top_on costs before now on whole end x before.root root_in (ap on (sym root) ∙ end_on costs before now on whole end x)) ∙ sym at_root)
              | inr some ↦ inl (subst (λ o. IsSome o) (sym (ap (λ s. mate_at now.mate.items s) here ∙ mate_whole costs before now on whole end x ∙ some.1)) refl)
            ]
      ];
      together = λ w w_in same. x.is.top w w_in ∙ ap (λ y. cond (on y) whole y) same ∙ sym (x.is.top before.root root_in) ∙ sym at_root;
    }

pub shrunk_growth : (costs : Costs) (before now : State) (on : ℕ → Bool) (whole end : ℕ) → Shrunk costs before now on whole end → IsGrowth before now
shrunk_growth costs before now on whole end x = record {
  size = x.is.size;
  sums = x.is.sums;
  outer = outer_stays costs before now on whole end x;
  together = λ u v u_in v_in outer same. x.is.top u u_in ∙ ap (λ y. cond (on y) whole y) same ∙ sym (x.is.top v v_in);
}
