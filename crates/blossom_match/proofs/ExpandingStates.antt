-- The state once an inner node is put away.
use Rattle.std.proofs.Common.{◌≡◌, ℕ, zero, suc, ◌+◌, ◌*◌, ◌-◌, ◌<◌, ◌≤◌, Bool, true, false, not, ◌&&◌, ◌||◌, cond, List, Option, Some, None, IsSome, IsSomeAnd, length, slice_index, refl, sym, subst, ap, ◌∙◌, arith, inl, inr}
use Rattle.std.proofs.lemmas.Bool.{cases_eq, cases_Bool, false≢true, false_from_ne_true}
use Rattle.blossom_match.specs.declared.costs.Costs.{Costs}
use Rattle.blossom_match.specs.declared.state.State.{State}
use Rattle.blossom_match.specs.declared.state.Pair.{Pair}
use Rattle.blossom_match.specs.declared.state.Label.{Label}
use Rattle.blossom_match.specs.declared.state.Label.TheVariants.{Free, Outer, Inner}
use Rattle.blossom_match.specs.Table.{IsAsked}
use Rattle.blossom_match.specs.Views.{holds, link_at, mate_at, child_at, label_at, is_used, is_outer, any_below, outer_members, has_outer, bare_nodes, to_do}
use Rattle.blossom_match.specs.Turns.{IsSpent, top_of, label_of}
use Rattle.blossom_match.specs.Growth.{IsGrowth}
use Rattle.blossom_match.specs.Between.{IsSearching, AreTops, AreWeights, KeepsRoot, after}
use Rattle.blossom_match.specs.Unfolding.{IsPaired}
use Rattle.blossom_match.specs.Expanding.{IsPutAway, IsWayIn}
use Rattle.blossom_match.proofs.Measuring.{total-less, less_to_do}
use Rattle.blossom_match.proofs.Totals.{total-ext}
use Rattle.blossom_match.proofs.Keeping.{odd_member}
use Rattle.blossom_match.proofs.UnfoldingTops.{not_child, matched_child, where_now}
use Rattle.blossom_match.proofs.ExpandingSets.{IsGone, sets_gone, tops_gone, weights_gone, cycles_gone, matched_gone, based_gone, tight_sums, still_used, other_used}
use Rattle.blossom_match.proofs.ExpandingStart.{spent_top, put_opening, put_gone}
use Rattle.blossom_match.proofs.ExpandingWay.{IsExpanding, node, outer_off, label_kept, mate_kept, way_cases, old_node, even_label}
use Rattle.blossom_match.proofs.ExpandingTree.{tree_now}

-- all but the labels and the entries is the same
pub record IsRelabelled (mid now : State) : Type 0 where
  pub size : now.size ≡ mid.size
  pub held : now.held ≡ mid.held
  pub halves : now.halves ≡ mid.halves
  pub top : now.top ≡ mid.top
  pub sums : now.sums ≡ mid.sums
  pub child : now.child ≡ mid.child
  pub next : now.next ≡ mid.next
  pub link : now.link ≡ mid.link
  pub mate : now.mate ≡ mid.mate
  pub one_way : now.one_way ≡ mid.one_way
  pub other_way : now.other_way ≡ mid.other_way
  pub base : now.base ≡ mid.base
  pub root : now.root ≡ mid.root
  pub label_len : length now.label.items ≡ length mid.label.items
  pub entry_len : length now.entry.items ≡ length mid.entry.items

-- a node was put away, and its children on a way were labelled
pub record IsExpanded (costs : Costs) (before mid now : State) (s first len : ℕ) (p : Pair) : Type 0 where
  pub asked : IsAsked costs
  pub searching : IsSearching costs before
  pub spent : IsSpent before 0 s
  pub child : child_at before.child.items s ≡ Some first
  pub matched : mate_at before.mate.items s ≡ Some p
  pub away : IsPutAway before mid s first len p
  pub way : IsWayIn before.next.items before.link.items (top_of mid p.inside) (top_of mid (link_at before.entry.items s).inside) len (link_at before.entry.items s) mid.label.items now.label.items before.entry.items now.entry.items
  pub relabelled : IsRelabelled mid now

pub record HasFacts (costs : Costs) (before mid now : State) (s base : ℕ) (p : Pair) : Type 0 where
  pub x : IsExpanding costs before s base p mid.top.items mid.mate.items now.label.items now.entry.items
  pub gone : IsGone before.size before.held.items mid.held.items before.halves.items before.child.items mid.child.items s
  pub tops : AreTops before.size mid.held.items mid.top.items
  pub weights : AreWeights costs before.size mid.held.items before.halves.items mid.top.items before.sums.items

pub facts : (costs : Costs) (before mid now : State) (s first len : ℕ) (p : Pair) → IsExpanded costs before mid now s first len p → HasFacts costs before mid now s (top_of mid p.inside) p
facts costs before mid now s first len p d =
    let b = d.searching.so_far in
    let o = spent_top costs before s first p d.asked d.searching d.spent d.child d.matched in
    let z = put_opening costs before mid s first len p o d.matched d.away in
    let g = put_gone costs before mid s first len p d.spent d.away in
    let tops = tops_gone costs before.size before.held.items mid.held.items before.halves.items before.child.items mid.child.items before.next.items before.link.items s (top_of mid p.inside) p
    before.top.items mid.top.items before.mate.items mid.mate.items z.0 (record { sets = b.sets; cycles = b.cycles }) b.tops g o.used in
    let weights = weights_gone costs before.size before.held.items mid.held.items before.halves.items before.child.items mid.child.items before.next.items before.link.items s (top_of mid p.inside) p
    before.top.items mid.top.items before.sums.items before.mate.items mid.mate.items z.0 b.weights g in
    record {
      x = record {
        searching = d.searching;
        z = z.0;
        reached = o.reached;
        inner = d.spent.inner;
        label0 = mid.label.items;
        gone = d.away.label;
        labels = d.away.labels;
        way = subst (λ l. IsWayIn before.next.items before.link.items (top_of mid p.inside) (top_of mid (link_at before.entry.items s).inside) l (link_at before.entry.items s) mid.label.items now.label.items before.entry.items now.entry.items)
            (sym z.1) d.way;
        tight_now = tight_sums costs before.size before.held.items mid.held.items before.halves.items before.child.items mid.child.items s mid.top.items before.sums.items g tops weights;
        same = o.can.same;
      };
      gone = g;
      tops = tops;
      weights = weights;
    }

pub expanded : (costs : Costs) (before mid now : State) (s first len : ℕ) (p : Pair) → IsExpanded costs before mid now s first len p → IsSearching costs now
expanded costs before mid now s first len p d =
    let b = d.searching.so_far in
    let a = d.away in
    let r = d.relabelled in
    let f = facts costs before mid now s first len p d in
    record {
      so_far = record {
        shape = record {
          size_is = r.size ∙ a.size ∙ b.shape.size_is;
          held_len = rw (r.held, r.size, a.size) (a.held_len ∙ b.shape.held_len);
          halves_len = rw (r.halves, r.size, a.halves, a.size) b.shape.halves_len;
          top_len = rw (r.top, r.size, a.size) (a.top_len ∙ b.shape.top_len);
          sums_len = rw (r.sums, r.size, a.sums, a.size) b.shape.sums_len;
          child_len = rw (r.child, r.size, a.size) (a.child_len ∙ b.shape.child_len);
          next_len = rw (r.next, r.size, a.next, a.size) b.shape.next_len;
          link_len = rw (r.link, r.size, a.link, a.size) b.shape.link_len;
          mate_len = rw (r.mate, r.size, a.size) (a.mate_len ∙ b.shape.mate_len);
          label_len = r.label_len ∙ rw (r.size, a.size) (a.label_len ∙ b.shape.label_len);
          entry_len = r.entry_len ∙ rw (r.size, a.size, a.entry) b.shape.entry_len;
          one_way_len = rw (r.one_way, r.size, a.one_way, a.size) b.shape.one_way_len;
          other_way_len = rw (r.other_way, r.size, a.other_way, a.size) b.shape.other_way_len;
          base_len = rw (r.base, r.size, a.base, a.size) b.shape.base_len;
        };
        sets = rw (r.size, r.held, r.halves, r.child, a.size, a.halves) (sets_gone before.size before.held.items mid.held.items before.halves.items before.child.items mid.child.items s f.gone b.sets);
        tops = rw (r.size, r.held, r.top, a.size) f.tops;
        weights = rw (r.size, r.held, r.halves, r.top, r.sums, a.size, a.halves, a.sums) f.weights;
        cycles = rw (r.size, r.held, r.halves, r.child, r.next, r.link, a.size, a.halves, a.next, a.link)
            (cycles_gone costs before.size before.held.items mid.held.items before.halves.items before.child.items mid.child.items before.next.items before.link.items s p.inside before.top.items b.sets b.tops
            f.x.z.paired.inside_in f.x.z.paired.here f.gone b.cycles);
        matched = rw (r.size, r.top, r.sums, r.mate, a.size, a.sums)
            (matched_gone costs before.size before.held.items mid.held.items before.halves.items before.child.items mid.child.items before.next.items before.link.items s (top_of mid p.inside) p
            before.top.items mid.top.items before.sums.items before.mate.items mid.mate.items f.x.z b.tops b.weights f.gone f.tops f.weights b.matched);
        based = rw (r.size, r.held, r.child, r.base, a.size, a.base) (based_gone before.size before.held.items mid.held.items before.halves.items before.child.items mid.child.items before.base.items s f.gone b.based);
      };
      tree = rw (r.size, r.top, r.sums, r.mate, r.root, a.size, a.sums, a.root) (tree_now f.x d.spent.in_slots);
    }

is_some_of : (o : Option Pair) (P : Pair → Type 0) → IsSomeAnd o P → IsSome o
is_some_of None P has = absurd has
is_some_of (Some p) P has = refl

pub expanded_keeps : (costs : Costs) (before mid now : State) (s first len : ℕ) (p : Pair) → IsExpanded costs before mid now s first len p → KeepsRoot before now
expanded_keeps costs before mid now s first len p d =
    let a = d.away in
    let r = d.relabelled in
    let f = facts costs before mid now s first len p d in
    let root_off = outer_off f.x before.root f.x.searching.tree.root_in f.x.searching.tree.root_outer in
    record {
      size = r.size ∙ a.size;
      root = r.root ∙ a.root;
      kept = λ w w_in has. inl (rw (r.mate, r.top) (elim (where_now costs before.size before.held.items before.halves.items before.child.items before.next.items before.link.items s (top_of mid p.inside) p
          before.top.items mid.top.items before.mate.items mid.mate.items f.x.z.opening w w_in) [
            | inl i ↦ subst (λ t. IsSome (mate_at mid.mate.items t)) (sym i.at)
                (is_some_of (mate_at mid.mate.items (after before.next.items i.place (top_of mid p.inside)))
                (IsPaired costs before.size before.held.items before.halves.items mid.top.items mid.mate.items (after before.next.items i.place (top_of mid p.inside)))
                (matched_child costs before.size before.held.items before.halves.items before.child.items before.next.items before.link.items s (top_of mid p.inside) p before.top.items mid.top.items before.mate.items mid.mate.items f.x.z i.place i.place_in))
            | inr e ↦ subst (λ o. IsSome o) (sym (ap (λ t. mate_at mid.mate.items t) e.at ∙ mate_kept f.x w w_in e.not_held)) has
          ]));
      together = λ w w_in same. rw (r.top, r.root, a.root)
          (let w_off : holds before.size before.held.items s w ≡ false = outer_off f.x w w_in (ap (λ t. label_at before.label.items t) same ∙ f.x.searching.tree.root_outer) in
          f.x.z.opening.off w w_in w_off ∙ same ∙ sym (f.x.z.opening.off before.root f.x.searching.tree.root_in root_off));
    }

number_of : (l m : Label) → l ≡ m → ◌≡◌ {A = ℕ} (cond (is_outer l) 1 0) (cond (is_outer m) 1 0)
number_of l m is = ap (λ y. cond {A = ℕ} (is_outer y) 1 0) is

-- a child became outer
outer_more_now : {costs : Costs} {before : State} {s base : ℕ} {p : Pair} {top' : List ℕ} {mate' : List (Option Pair)} {label' : List Label} {entry' : List Pair} → (x : IsExpanding costs before s base p top' mate' label' entry') →
    1 ≤ x.way.turns → outer_members before.size before.top.items before.label.items < outer_members before.size top' label'
outer_more_now {before = before} {s = s} {top' = top'} {label' = label'} x some =
    let place_in = x.way.in_len 1 (omega (arith, some)) in
    let m = odd_member before.size (holds before.size before.held.items (node x 1)) (x.z.sets.odd (node x 1) (x.z.opening.cycle.in_slots (x.way.spot 1) place_in) (x.z.opening.cycle.used (x.way.spot 1) place_in)) in
    let on : holds before.size before.held.items s m.0 ≡ true = x.z.opening.cycle.inner (x.way.spot 1) m.0 place_in m.1 m.2 in
    let one_is : suc (2 * 0) ≡ 1 = omega arith in
    let first : label_at label' (node x 1) ≡ Outer = subst (λ k. label_at label' (node x k) ≡ Outer) one_is (x.way.outer 0 (omega (arith, some))) in
    let old : ◌≡◌ {A = ℕ} (cond (is_outer (label_at before.label.items (slice_index before.top.items m.0))) 1 0) 0 =
    number_of (label_at before.label.items (slice_index before.top.items m.0)) Inner (ap (λ t. label_at before.label.items t) (x.z.topmost m.0 m.1 on) ∙ x.inner) in
    let new : ◌≡◌ {A = ℕ} (cond (is_outer (label_at label' (slice_index top' m.0))) 1 0) 1 =
    number_of (label_at label' (slice_index top' m.0)) Outer (ap (λ t. label_at label' t) (x.z.opening.own (x.way.spot 1) m.0 place_in m.1 m.2) ∙ first) in
    total-less before.size (λ v. cond (is_outer (label_at before.label.items (slice_index before.top.items v))) 1 0) (λ v. cond (is_outer (label_at label' (slice_index top' v))) 1 0) m.0
    (λ v v_in. elim (cases_Bool (holds before.size before.held.items s v)) [
      | inl at ↦
          (let zero_at : ◌≡◌ {A = ℕ} (cond (is_outer (label_at before.label.items (slice_index before.top.items v))) 1 0) 0 =
          number_of (label_at before.label.items (slice_index before.top.items v)) Inner (ap (λ t. label_at before.label.items t) (x.z.topmost v v_in at) ∙ x.inner) in
          omega (arith, zero_at))
      | inr off ↦
          (let alike : ◌≡◌ {A = ℕ} (cond (is_outer (label_at label' (slice_index top' v))) 1 0) (cond (is_outer (label_at before.label.items (slice_index before.top.items v))) 1 0) =
          number_of (label_at label' (slice_index top' v)) (label_at before.label.items (slice_index before.top.items v)) (ap (λ t. label_at label' t) (x.z.opening.off v v_in off) ∙ label_kept x v v_in off) in
          omega (arith, alike))
    ])
    m.1 (omega (arith, old, new))

outer_of : (l : Label) → is_outer l ≡ true → l ≡ Outer
outer_of Outer is = refl
outer_of Free is = absurd (false≢true is)
outer_of Inner is = absurd (false≢true is)

inner_outer : Inner ≡ Outer → ⊥
inner_outer e = cc

outer_free : Outer ≡ Free → ⊥
outer_free e = cc

-- where the way has one node, no child is outer
same_outer : {costs : Costs} {before : State} {s base : ℕ} {p : Pair} {top' : List ℕ} {mate' : List (Option Pair)} {label' : List Label} {entry' : List Pair} → (x : IsExpanding costs before s base p top' mate' label' entry') →
    x.way.turns ≡ 0 → (v : ℕ) → v < before.size → is_outer (label_at label' (slice_index top' v)) ≡ is_outer (label_at before.label.items (slice_index before.top.items v))
same_outer {costs = costs} {before = before} {s = s} {base = base} {p = p} {top' = top'} {mate' = mate'} {label' = label'} x none v v_in =
    elim (where_now costs before.size before.held.items before.halves.items before.child.items before.next.items before.link.items s base p before.top.items top' before.mate.items mate' x.z.opening v v_in) [
      | inr e ↦ ap (λ t. is_outer (label_at label' t)) e.at ∙ ap is_outer (label_kept x v v_in e.not_held)
      | inl i ↦
          let never : label_at label' (slice_index top' v) ≡ Outer → ⊥ = λ outer. elim (way_cases x (slice_index top' v)) [
            | inl k ↦ inner_outer (sym (even_label x k.0 k.1 (omega (arith, k.1, none))).0 ∙ ap (λ t. label_at label' t) (sym k.2) ∙ outer)
            | inr away ↦
                let t_in : slice_index top' v < 2 * before.size = subst (λ t. t < 2 * before.size) (sym i.at) (x.z.opening.cycle.in_slots i.place i.place_in) in
                let o = old_node x (slice_index top' v) t_in away (λ free. outer_free (sym outer ∙ free)) in
                not_child costs before.size before.held.items before.halves.items before.child.items before.next.items before.link.items s base before.top.items x.z.opening.cycle x.z.parts
                o.member o.member_in o.off i.place i.place_in (o.at ∙ i.at)
          ] in
          false_from_ne_true (is_outer (label_at label' (slice_index top' v))) (λ is. never (outer_of (label_at label' (slice_index top' v)) is))
          ∙ sym (ap is_outer (ap (λ t. label_at before.label.items t) (x.z.topmost v v_in i.held_in) ∙ x.inner))
    ]

any-ext : (n : ℕ) (f g : ℕ → Bool) → ((v : ℕ) → v < n → f v ≡ g v) → any_below n f ≡ any_below n g
any-ext zero f g same = refl
any-ext (suc n) f g same = ap (λ b. b || any_below n f) (same n (omega arith)) ∙ ap (λ b. g n || b) (any-ext n f g (λ v v_in. same v (omega (arith, v_in))))

any-none : (n : ℕ) (f : ℕ → Bool) → ((v : ℕ) → v < n → f v ≡ false) → any_below n f ≡ false
any-none zero f none = refl
any-none (suc n) f none = ap (λ b. b || any_below n f) (none n (omega arith)) ∙ any-none n f (λ v v_in. none v (omega (arith, v_in)))

both_false : (a b : Bool) → (a ≡ true → b ≡ false) → (a && b) ≡ false
both_false true b off = off refl
both_false false b off = refl

-- the node that is put away counts no more
bare_less : {costs : Costs} {before : State} {s base : ℕ} {p : Pair} {top' : List ℕ} {mate' : List (Option Pair)} {label' : List Label} {entry' : List Pair} (held' : List Bool) (child' : List (Option ℕ)) →
    (x : IsExpanding costs before s base p top' mate' label' entry') → x.way.turns ≡ 0 → IsGone before.size before.held.items held' before.halves.items before.child.items child' s → is_used before.size before.child.items s ≡ true →
    bare_nodes before.size held' top' child' label' < bare_nodes before.size before.held.items before.top.items before.child.items before.label.items
bare_less {before = before} {s = s} {top' = top'} {label' = label'} held' child' x none g used =
    let gone : is_used before.size child' s ≡ false = false_from_ne_true (is_used before.size child' s)
    (λ on. other_used before.size before.held.items held' before.halves.items before.child.items child' s g s on refl) in
    let now_zero : ◌≡◌ {A = ℕ} (cond (is_used before.size child' s && not (has_outer before.size held' top' label' s)) 1 0) 0 = ap (λ b. cond {A = ℕ} (b && not (has_outer before.size held' top' label' s)) 1 0) gone in
    let bare : has_outer before.size before.held.items before.top.items before.label.items s ≡ false =
    any-none before.size (λ v. holds before.size before.held.items s v && is_outer (label_at before.label.items (slice_index before.top.items v)))
    (λ v v_in. both_false (holds before.size before.held.items s v) (is_outer (label_at before.label.items (slice_index before.top.items v)))
    (λ on. ap is_outer (ap (λ t. label_at before.label.items t) (x.z.topmost v v_in on) ∙ x.inner))) in
    let old_one : ◌≡◌ {A = ℕ} (cond (is_used before.size before.child.items s && not (has_outer before.size before.held.items before.top.items before.label.items s)) 1 0) 1 =
    ap (λ b. cond {A = ℕ} (b && not (has_outer before.size before.held.items before.top.items before.label.items s)) 1 0) used ∙ ap (λ b. cond {A = ℕ} (not b) 1 0) bare in
    total-less (2 * before.size) (λ t. cond (is_used before.size child' t && not (has_outer before.size held' top' label' t)) 1 0)
    (λ t. cond (is_used before.size before.child.items t && not (has_outer before.size before.held.items before.top.items before.label.items t)) 1 0) s
    (λ t t_in. elim (cases_eq t s) [
      | inl same ↦
          (let at : ◌≡◌ {A = ℕ} (cond (is_used before.size child' t && not (has_outer before.size held' top' label' t)) 1 0) 0 =
          ap (λ y. cond {A = ℕ} (is_used before.size child' y && not (has_outer before.size held' top' label' y)) 1 0) same ∙ now_zero in
          omega (arith, at))
      | inr other ↦
          (let holders : has_outer before.size held' top' label' t ≡ has_outer before.size before.held.items before.top.items before.label.items t =
          any-ext before.size (λ v. holds before.size held' t v && is_outer (label_at label' (slice_index top' v))) (λ v. holds before.size before.held.items t v && is_outer (label_at before.label.items (slice_index before.top.items v)))
          (λ v v_in. ap (λ b. b && is_outer (label_at label' (slice_index top' v))) (g.rows t v v_in other) ∙ ap (λ b. holds before.size before.held.items t v && b) (same_outer x none v v_in)) in
          let alike : ◌≡◌ {A = ℕ} (cond (is_used before.size child' t && not (has_outer before.size held' top' label' t)) 1 0)
          (cond (is_used before.size before.child.items t && not (has_outer before.size before.held.items before.top.items before.label.items t)) 1 0) =
          ap (λ b. cond {A = ℕ} (b && not (has_outer before.size held' top' label' t)) 1 0) (still_used before.size before.held.items held' before.halves.items before.child.items child' s g t other)
          ∙ ap (λ b. cond {A = ℕ} (is_used before.size before.child.items t && not b) 1 0) holders in
          omega (arith, alike))
    ])
    g.s_in (omega (arith, now_zero, old_one))

less_bare : (before now : State) → now.size ≡ before.size → outer_members now.size now.top.items now.label.items ≡ outer_members before.size before.top.items before.label.items →
    bare_nodes now.size now.held.items now.top.items now.child.items now.label.items < bare_nodes before.size before.held.items before.top.items before.child.items before.label.items → to_do now < to_do before
unfolding to_do
less_bare before now size same less =
    let front : (now.size - outer_members now.size now.top.items now.label.items) * (2 * now.size + 1) ≡ (before.size - outer_members before.size before.top.items before.label.items) * (2 * before.size + 1) =
    ap (λ y. (now.size - y) * (2 * now.size + 1)) same ∙ ap (λ k. (k - outer_members before.size before.top.items before.label.items) * (2 * k + 1)) size in
    omega (arith, front, less)

pub expanded_less : (costs : Costs) (before mid now : State) (s first len : ℕ) (p : Pair) → IsExpanded costs before mid now s first len p → to_do now < to_do before
expanded_less costs before mid now s first len p d =
    let a = d.away in
    let r = d.relabelled in
    let f = facts costs before mid now s first len p d in
    let o = spent_top costs before s first p d.asked d.searching d.spent d.child d.matched in
    elim (cases_eq f.x.way.turns 0) [
      | inl none ↦ less_bare before now (r.size ∙ a.size)
          (rw (r.size, r.top, a.size)
          (total-ext before.size (λ v. cond (is_outer (label_at now.label.items (slice_index mid.top.items v))) 1 0) (λ v. cond (is_outer (label_at before.label.items (slice_index before.top.items v))) 1 0)
          (λ v v_in. ap (λ b. cond b 1 0) (same_outer f.x none v v_in))))
          (rw (r.size, r.held, r.top, r.child, a.size) (bare_less mid.held.items mid.child.items f.x none f.gone o.used))
      | inr some ↦ less_to_do before now (r.size ∙ a.size) (rw (r.size, r.top, a.size) (outer_more_now f.x (omega (arith, some))))
    ]

pub expanded_growth : (costs : Costs) (before mid now : State) (s first len : ℕ) (p : Pair) → IsExpanded costs before mid now s first len p → IsGrowth before now
expanded_growth costs before mid now s first len p d =
    let a = d.away in
    let r = d.relabelled in
    let f = facts costs before mid now s first len p d in
    let stays : (v : ℕ) → v < before.size → label_of before (top_of before v) ≡ Outer → slice_index mid.top.items v ≡ slice_index before.top.items v =
    λ v v_in outer. f.x.z.opening.off v v_in (outer_off f.x v v_in outer) in
    record {
      size = r.size ∙ a.size;
      sums = rw (r.sums, a.sums) refl;
      outer = λ v v_in outer. rw r.top (ap (λ t. label_at now.label.items t) (stays v v_in outer) ∙ label_kept f.x v v_in (outer_off f.x v v_in outer) ∙ outer);
      together = λ u v u_in v_in outer same. rw r.top (stays u u_in outer ∙ same ∙ sym (stays v v_in (ap (λ t. label_at before.label.items t) (sym same) ∙ outer)));
    }
