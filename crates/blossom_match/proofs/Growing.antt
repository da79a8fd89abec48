-- A matched pair of nodes comes into the tree.
use Rattle.std.proofs.Common.{◌≡◌, ◌≢◌, ◌⊎◌, ℕ, suc, ◌+◌, ◌*◌, ◌%◌, ◌<◌, Bool, cond, eqb, List, Option, Some, IfSome, IsSomeAnd, length, slice_index, set, refl, sym, subst, ap, ◌∙◌, arith, inl, inr}
use Rattle.std.proofs.lemmas.Bool.{cases_eq, eq-eqb, ne_eqb}
use Rattle.std.proofs.lemmas.List.{get_or-set_same, get_or-set_other}
use Rattle.std.proofs.Math.ListN.{length-set}
use Rattle.blossom_match.specs.declared.costs.Costs.{Costs}
use Rattle.blossom_match.specs.declared.state.State.{State}
use Rattle.blossom_match.specs.declared.state.Pair.{Pair}
use Rattle.blossom_match.specs.declared.state.Label.{Label}
use Rattle.blossom_match.specs.declared.state.Label.TheVariants.{Free, Outer, Inner}
use Rattle.blossom_match.specs.Table.{cost, IsTable}
use Rattle.blossom_match.specs.Turns.{IsReach}
use Rattle.blossom_match.specs.Growth.{IsGrowth}
use Rattle.blossom_match.specs.Views.{no_pair, label_at, mate_at, link_at, to_do}
use Rattle.blossom_match.specs.Between.{AreTops, IsMatched, IsTree, IsReached, IsSearching}
use Rattle.blossom_match.proofs.Measuring.{outer_more, less_to_do}
use Rattle.blossom_match.proofs.Planting.{relabeled}
use Rattle.blossom_match.proofs.Raising.{outer_not_free, inner_not_free}
use Rattle.blossom_match.proofs.Moving.{Bal, matched_balance, is_some_at, is_some_map, if_some_map}

pub free_only : (m : Label) → Bal Free m → m ≡ Free
free_only Free bal = refl
free_only Outer bal = absurd bal
free_only Inner bal = absurd bal

inner_outer : Inner ≡ Outer → ⊥
inner_outer e = cc

-- the labels once two nodes are labelled
pub record Labelled (label label' : List Label) (inner outer : ℕ) : Type 0 where
  pub at_inner : label_at label' inner ≡ Inner
  pub at_outer : label_at label' outer ≡ Outer
  pub off : (s : ℕ) → s ≢ inner → s ≢ outer → label_at label' s ≡ label_at label s
  pub inner_free : label_at label inner ≡ Free
  pub outer_free : label_at label outer ≡ Free

pub labelled : (label : List Label) (inner outer : ℕ) → inner < length label → outer < length (set label inner Inner) → inner ≢ outer → label_at label inner ≡ Free → label_at label outer ≡ Free →
    Labelled label (set (set label inner Inner) outer Outer) inner outer
labelled label inner outer inner_in outer_in apart inner_free outer_free = record {
  at_inner = get_or-set_other (set label inner Inner) outer inner Outer Free apart ∙ get_or-set_same label inner Inner Free inner_in;
  at_outer = get_or-set_same (set label inner Inner) outer Outer Free outer_in;
  off = λ s not_inner not_outer. get_or-set_other (set label inner Inner) outer s Outer Free not_outer ∙ get_or-set_other label inner s Inner Free not_inner;
  inner_free = inner_free;
  outer_free = outer_free;
}

-- what was labelled stays so
stays : (label label' : List Label) (inner outer : ℕ) → Labelled label label' inner outer → (s : ℕ) (l : Label) → l ≢ Free → label_at label s ≡ l → label_at label' s ≡ l
stays label label' inner outer d s l some is =
    d.off s (λ e. some (sym is ∙ ap (λ x. label_at label x) e ∙ d.inner_free)) (λ e. some (sym is ∙ ap (λ x. label_at label x) e ∙ d.outer_free)) ∙ is

-- where a label stands now
cases_now : (label label' : List Label) (inner outer : ℕ) → Labelled label label' inner outer → (s : ℕ) → (s ≡ inner) ⊎ ((s ≡ outer) ⊎ (label_at label' s ≡ label_at label s))
cases_now label label' inner outer d s = elim (cases_eq s inner) [
  | inl at ↦ inl at
  | inr first ↦ elim (cases_eq s outer) [ inl at ↦ inr (inl at) | inr second ↦ inr (inr (d.off s first second)) ]
]

even_sum : (a b c : ℕ) → (a + b) % 2 ≡ 0 → (b + c) % 2 ≡ 0 → (a + c) % 2 ≡ 0
even_sum a b c p q = omega (arith, p, q)

even_tight : (a b c : ℕ) → a + b ≡ 2 * c → (a + b) % 2 ≡ 0
even_tight a b c e = omega (arith, e)

pub grown : (costs : Costs) (n : ℕ) (held : List Bool) (top sums : List ℕ) (mate : List (Option Pair)) (label label' : List Label) (entry entry' : List Pair) (root u v : ℕ) (p : Pair) →
    AreTops n held top → ((x y : ℕ) → x < n → y < n → slice_index top x ≡ slice_index top y → (slice_index sums x + slice_index sums y) % 2 ≡ 0) →
    IsTree costs n top sums mate label entry root → u < n → v < n → label_at label (slice_index top u) ≡ Outer →
    slice_index sums v + slice_index sums u ≡ 2 * cost costs v u →
    mate_at mate (slice_index top v) ≡ Some p → IsMatched costs n top sums mate (slice_index top v) p →
    Labelled label label' (slice_index top v) (slice_index top p.outside) →
    link_at entry' (slice_index top v) ≡ record { inside = v; outside = u } → ((s : ℕ) → s ≢ slice_index top v → link_at entry' s ≡ link_at entry s) →
    IsTree costs n top sums mate label' entry' root
grown costs n held top sums mate label label' entry entry' root u v p tops same tree u_in v_in u_outer tight matched m d entry_is entry_off =
    let inner = slice_index top v in
    let outer = slice_index top p.outside in
    let p_out = m.tight.outside_in in
    let now_outer : (s : ℕ) → label_at label s ≡ Outer → label_at label' s ≡ Outer = λ s is. stays label label' (slice_index top v) (slice_index top p.outside) d s Outer outer_not_free is in
    let now_inner : (s : ℕ) → label_at label s ≡ Inner → label_at label' s ≡ Inner = λ s is. stays label label' (slice_index top v) (slice_index top p.outside) d s Inner inner_not_free is in
    let not_outer_node : (s : ℕ) → label_at label s ≡ Outer → s ≢ slice_index top p.outside = λ s is e. outer_not_free (sym is ∙ ap (λ x. label_at label x) e ∙ d.outer_free) in
    let to_root : (w : ℕ) → w < n → label_at label' (slice_index top w) ≢ Free → (slice_index sums w + slice_index sums root) % 2 ≡ 0 =
    λ w w_in some. elim (cases_now label label' (slice_index top v) (slice_index top p.outside) d (slice_index top w)) [
      | inl at ↦ even_sum (slice_index sums w) (slice_index sums v) (slice_index sums root) (same w v w_in v_in at)
          (even_sum (slice_index sums v) (slice_index sums u) (slice_index sums root) (even_tight (slice_index sums v) (slice_index sums u) (cost costs v u) tight)
          (tree.parity u root u_in tree.root_in (λ free. outer_not_free (sym u_outer ∙ free)) (λ free. outer_not_free (sym tree.root_outer ∙ free))))
      | inr (inl at) ↦ even_sum (slice_index sums w) (slice_index sums p.outside) (slice_index sums root) (same w p.outside w_in p_out at)
          (even_sum (slice_index sums p.outside) (slice_index sums p.inside) (slice_index sums root)
          (even_tight (slice_index sums p.outside) (slice_index sums p.inside) (cost costs p.inside p.outside) (omega (arith, m.tight.tight)))
          (even_sum (slice_index sums p.inside) (slice_index sums v) (slice_index sums root) (same p.inside v m.tight.inside_in v_in m.here)
          (even_sum (slice_index sums v) (slice_index sums u) (slice_index sums root) (even_tight (slice_index sums v) (slice_index sums u) (cost costs v u) tight)
          (tree.parity u root u_in tree.root_in (λ free. outer_not_free (sym u_outer ∙ free)) (λ free. outer_not_free (sym tree.root_outer ∙ free))))))
      | inr (inr is) ↦ tree.parity w root w_in tree.root_in (λ free. some (is ∙ free)) (λ free. outer_not_free (sym tree.root_outer ∙ free))
    ] in
    let depth' : ℕ → ℕ = λ s. cond (eqb s (slice_index top p.outside)) (suc (tree.depth (slice_index top u))) (tree.depth s) in
    let depth_off : (s : ℕ) → s ≢ slice_index top p.outside → depth' s ≡ tree.depth s = λ s other. ap (λ b. cond b (suc (tree.depth (slice_index top u))) (tree.depth s)) (ne_eqb s (slice_index top p.outside) other) in
    let depth_at : depth' (slice_index top p.outside) ≡ suc (tree.depth (slice_index top u)) =
    ap (λ b. cond b (suc (tree.depth (slice_index top u))) (tree.depth (slice_index top p.outside))) (eq-eqb (slice_index top p.outside) (slice_index top p.outside) refl) in
    let reached_off : (s : ℕ) → s < 2 * n → s ≢ slice_index top v → label_at label s ≡ Inner → IsSomeAnd (mate_at mate s) (IsReached costs n top sums label' (link_at entry' s) s) =
    λ s s_in other is. is_some_map (mate_at mate s) (IsReached costs n top sums label (link_at entry s) s) (IsReached costs n top sums label' (link_at entry' s) s)
    (λ q q_is r. subst (λ e. IsReached costs n top sums label' e s q) (sym (entry_off s other)) (record {
      entry_tight = r.entry_tight;
      entry_here = r.entry_here;
      above = now_outer (slice_index top (link_at entry s).outside) r.above;
      below = now_outer (slice_index top q.outside) r.below;
      forks = r.forks;
    })) (tree.inner s s_in is) in
    let reached_at : IsReached costs n top sums label' (record { inside = v; outside = u }) (slice_index top v) p = record {
      entry_tight = record {
        inside_in = v_in;
        outside_in = u_in;
        apart = λ e. outer_not_free (sym u_outer ∙ ap (λ x. label_at label x) (sym e) ∙ d.inner_free);
        tight = tight;
      };
      entry_here = refl;
      above = now_outer (slice_index top u) u_outer;
      below = d.at_outer;
      forks = not_outer_node (slice_index top u) u_outer;
    } in
    record {
      root_in = tree.root_in;
      root_outer = now_outer (slice_index top root) tree.root_outer;
      root_open = tree.root_open;
      outermost = λ s s_in some. elim (cases_now label label' (slice_index top v) (slice_index top p.outside) d s) [
        | inl at ↦ (v, v_in, sym at)
        | inr (inl at) ↦ (p.outside, p_out, sym at)
        | inr (inr is) ↦ tree.outermost s s_in (λ free. some (is ∙ free))
      ];
      outer = λ s s_in now. elim (cases_now label label' (slice_index top v) (slice_index top p.outside) d s) [
        | inl at ↦ absurd (inner_outer (sym d.at_inner ∙ ap (λ x. label_at label' x) (sym at) ∙ now))
        | inr (inl at) ↦ inr (subst (λ x. IsSomeAnd (mate_at mate x) (λ q. label_at label' (slice_index top q.outside) ≡ Inner)) (sym at)
            (subst (λ o. IsSomeAnd o (λ q. label_at label' (slice_index top q.outside) ≡ Inner)) (sym m.back) (ap (λ x. label_at label' x) m.here ∙ d.at_inner)))
        | inr (inr is) ↦ elim (tree.outer s s_in (sym is ∙ now)) [
          | inl at_root ↦ inl at_root
          | inr some ↦ inr (is_some_map (mate_at mate s) (λ q. label_at label (slice_index top q.outside) ≡ Inner) (λ q. label_at label' (slice_index top q.outside) ≡ Inner)
              (λ q q_is at. now_inner (slice_index top q.outside) at) some)
        ]
      ];
      inner = λ s s_in now. elim (cases_now label label' (slice_index top v) (slice_index top p.outside) d s) [
        | inl at ↦ subst (λ x. IsSomeAnd (mate_at mate x) (IsReached costs n top sums label' (link_at entry' x) x)) (sym at)
            (subst (λ o. IsSomeAnd o (IsReached costs n top sums label' (link_at entry' (slice_index top v)) (slice_index top v))) (sym matched)
            (subst (λ e. IsReached costs n top sums label' e (slice_index top v) p) (sym entry_is) reached_at))
        | inr (inl at) ↦ absurd (inner_outer (sym now ∙ ap (λ x. label_at label' x) at ∙ d.at_outer))
        | inr (inr is) ↦ reached_off s s_in (λ at. inner_not_free (sym (sym is ∙ now) ∙ ap (λ x. label_at label x) at ∙ d.inner_free)) (sym is ∙ now)
      ];
      parity = λ x y x_in y_in at_x at_y. even_sum (slice_index sums x) (slice_index sums root) (slice_index sums y) (to_root x x_in at_x)
          (let e = to_root y y_in at_y in omega (arith, e));
      depth = depth';
      deeper = λ s s_in now. elim (cases_now label label' (slice_index top v) (slice_index top p.outside) d s) [
        | inl at ↦ subst (λ x. IfSome (mate_at mate x) (λ q. depth' (slice_index top (link_at entry' x).outside) < depth' (slice_index top q.outside))) (sym at)
            (subst (λ o. IfSome o (λ q. depth' (slice_index top (link_at entry' (slice_index top v)).outside) < depth' (slice_index top q.outside))) (sym matched)
            (subst (λ e. depth' (slice_index top e.outside) < depth' (slice_index top p.outside)) (sym entry_is)
            (omega (arith, depth_at, depth_off (slice_index top u) (not_outer_node (slice_index top u) u_outer)))))
        | inr (inl at) ↦ absurd (inner_outer (sym now ∙ ap (λ x. label_at label' x) at ∙ d.at_outer))
        | inr (inr is) ↦
            let was : label_at label s ≡ Inner = sym is ∙ now in
            let other : s ≢ slice_index top v = λ at. inner_not_free (sym was ∙ ap (λ x. label_at label x) at ∙ d.inner_free) in
            if_some_map (mate_at mate s) (λ q. tree.depth (slice_index top (link_at entry s).outside) < tree.depth (slice_index top q.outside))
            (λ q. depth' (slice_index top (link_at entry' s).outside) < depth' (slice_index top q.outside))
            (λ q q_is less.
            let r = is_some_at (mate_at mate s) (IsReached costs n top sums label (link_at entry s) s) q q_is (tree.inner s s_in was) in
            subst (λ e. depth' (slice_index top e.outside) < depth' (slice_index top q.outside)) (sym (entry_off s other))
            (omega (
              arith,
              less,
              depth_off (slice_index top (link_at entry s).outside) (not_outer_node (slice_index top (link_at entry s).outside) r.above),
              depth_off (slice_index top q.outside) (not_outer_node (slice_index top q.outside) r.below),
            )))
            (tree.deeper s s_in was)
      ];
    }

-- a state after growing
pub record IsGrown (before now : State) (i o u v : ℕ) : Type 0 where
  pub size : now.size ≡ before.size
  pub held : now.held ≡ before.held
  pub halves : now.halves ≡ before.halves
  pub top : now.top ≡ before.top
  pub sums : now.sums ≡ before.sums
  pub child : now.child ≡ before.child
  pub next : now.next ≡ before.next
  pub link : now.link ≡ before.link
  pub mate : now.mate ≡ before.mate
  pub one_way : now.one_way ≡ before.one_way
  pub other_way : now.other_way ≡ before.other_way
  pub base : now.base ≡ before.base
  pub root : now.root ≡ before.root
  pub label : now.label.items ≡ set (set before.label.items i Inner) o Outer
  pub entry : now.entry.items ≡ set before.entry.items i (record { inside = v; outside = u })

pub if_some_at : (o : Option Pair) (P : Pair → Type 0) (p : Pair) → o ≡ Some p → IfSome o P → P p
if_some_at o P p is h = subst (λ x. IfSome x P) is h

grow_labels : (costs : Costs) (before : State) (u v : ℕ) (p : Pair) → IsSearching costs before → IsReach costs before 0 u v → mate_at before.mate.items (slice_index before.top.items v) ≡ Some p →
    Labelled before.label.items (set (set before.label.items (slice_index before.top.items v) Inner) (slice_index before.top.items p.outside) Outer) (slice_index before.top.items v) (slice_index before.top.items p.outside)
grow_labels costs before u v p s reach is =
    let top = before.top.items in
    let label = before.label.items in
    let m = if_some_at (mate_at before.mate.items (slice_index before.top.items v)) (IsMatched costs before.size before.top.items before.sums.items before.mate.items (slice_index before.top.items v)) p is (s.so_far.matched v reach.v_in) in
    let bal = matched_balance costs before.size before.held.items before.top.items before.sums.items before.mate.items before.label.items before.entry.items before.root s.so_far.tops s.tree
    (slice_index before.top.items v) p (s.so_far.tops.top_in v reach.v_in) is m in
    let here : label_at before.label.items (slice_index before.top.items p.inside) ≡ Free = ap (λ x. label_at before.label.items x) m.here ∙ reach.free in
    let there : label_at before.label.items (slice_index before.top.items p.outside) ≡ Free =
    free_only (label_at before.label.items (slice_index before.top.items p.outside)) (subst (λ l. Bal l (label_at before.label.items (slice_index before.top.items p.outside))) here bal) in
    labelled before.label.items (slice_index before.top.items v) (slice_index before.top.items p.outside)
    (omega (arith, s.so_far.tops.top_in v reach.v_in, s.so_far.shape.label_len))
    (omega (arith, s.so_far.tops.top_in p.outside m.tight.outside_in, s.so_far.shape.label_len, length-set before.label.items (slice_index before.top.items v) Inner))
    (λ e. m.tight.apart (m.here ∙ e)) reach.free there

pub grow_keeps : (costs : Costs) (before now : State) (u v : ℕ) (p : Pair) → IsTable costs → IsSearching costs before → IsReach costs before 0 u v →
    mate_at before.mate.items (slice_index before.top.items v) ≡ Some p → IsGrown before now (slice_index before.top.items v) (slice_index before.top.items p.outside) u v → IsSearching costs now
grow_keeps costs before now u v p table s reach is g =
    let m = if_some_at (mate_at before.mate.items (slice_index before.top.items v)) (IsMatched costs before.size before.top.items before.sums.items before.mate.items (slice_index before.top.items v)) p is (s.so_far.matched v reach.v_in) in
    let inner_in : slice_index before.top.items v < length before.entry.items = omega (arith, s.so_far.tops.top_in v reach.v_in, s.so_far.shape.entry_len) in
    let d = grow_labels costs before u v p s reach is in
    let tight : slice_index before.sums.items v + slice_index before.sums.items u ≡ 2 * cost costs v u =
    omega (arith, reach.full, table.same u v (omega (arith, reach.u_in, s.so_far.shape.size_is)) (omega (arith, reach.v_in, s.so_far.shape.size_is))) in
    let label_len : length now.label.items ≡ length before.label.items =
    ap length g.label ∙ length-set (set before.label.items (slice_index before.top.items v) Inner) (slice_index before.top.items p.outside) Outer ∙ length-set before.label.items (slice_index before.top.items v) Inner in
    let entry_len : length now.entry.items ≡ length before.entry.items = ap length g.entry ∙ length-set before.entry.items (slice_index before.top.items v) (record { inside = v; outside = u }) in
    record {
      so_far = relabeled costs before now g.size g.held g.halves g.top g.sums g.child g.next g.link g.mate g.one_way g.other_way g.base label_len entry_len s.so_far;
      tree = rw (g.size, g.top, g.sums, g.mate, g.label, g.entry, g.root)
          (grown costs before.size before.held.items before.top.items before.sums.items before.mate.items before.label.items
          (set (set before.label.items (slice_index before.top.items v) Inner) (slice_index before.top.items p.outside) Outer) before.entry.items
          (set before.entry.items (slice_index before.top.items v) (record { inside = v; outside = u })) before.root u v p
          s.so_far.tops s.so_far.weights.parity s.tree reach.u_in reach.v_in reach.outer tight is m d
          (get_or-set_same before.entry.items (slice_index before.top.items v) (record { inside = v; outside = u }) no_pair inner_in)
          (λ x other. get_or-set_other before.entry.items (slice_index before.top.items v) x (record { inside = v; outside = u }) no_pair other));
    }

pub grow_less : (costs : Costs) (before now : State) (u v : ℕ) (p : Pair) → IsSearching costs before → IsReach costs before 0 u v →
    mate_at before.mate.items (slice_index before.top.items v) ≡ Some p → IsGrown before now (slice_index before.top.items v) (slice_index before.top.items p.outside) u v → to_do now < to_do before
grow_less costs before now u v p s reach is g =
    let m = if_some_at (mate_at before.mate.items (slice_index before.top.items v)) (IsMatched costs before.size before.top.items before.sums.items before.mate.items (slice_index before.top.items v)) p is (s.so_far.matched v reach.v_in) in
    let d = grow_labels costs before u v p s reach is in
    less_to_do before now g.size (rw (g.size, g.top, g.label)
    (outer_more before.size before.top.items before.label.items (set (set before.label.items (slice_index before.top.items v) Inner) (slice_index before.top.items p.outside) Outer) p.outside
    (λ x at. stays before.label.items (set (set before.label.items (slice_index before.top.items v) Inner) (slice_index before.top.items p.outside) Outer) (slice_index before.top.items v) (slice_index before.top.items p.outside) d x Outer outer_not_free at)
    m.tight.outside_in d.outer_free d.at_outer))

pub mate_in_range : (costs : Costs) (before : State) (v : ℕ) (p : Pair) → IsSearching costs before → v < before.size → mate_at before.mate.items (slice_index before.top.items v) ≡ Some p → p.outside < length before.top.items
mate_in_range costs before v p s v_in is =
    let m = if_some_at (mate_at before.mate.items (slice_index before.top.items v)) (IsMatched costs before.size before.top.items before.sums.items before.mate.items (slice_index before.top.items v)) p is (s.so_far.matched v v_in) in
    omega (arith, m.tight.outside_in, s.so_far.shape.top_len)

pub grow_growth : (costs : Costs) (before now : State) (u v : ℕ) (p : Pair) → IsSearching costs before → IsReach costs before 0 u v →
    mate_at before.mate.items (slice_index before.top.items v) ≡ Some p → IsGrown before now (slice_index before.top.items v) (slice_index before.top.items p.outside) u v → IsGrowth before now
grow_growth costs before now u v p s reach is g =
    let d = grow_labels costs before u v p s reach is in
    record {
      size = g.size;
      sums = ap (λ y. y.items) g.sums;
      outer = λ x x_in outer. rw (g.top, g.label)
          (stays before.label.items (set (set before.label.items (slice_index before.top.items v) Inner) (slice_index before.top.items p.outside) Outer) (slice_index before.top.items v) (slice_index before.top.items p.outside) d
          (slice_index before.top.items x) Outer outer_not_free outer);
      together = λ x y x_in y_in outer same. rw g.top same;
    }
