-- The tree once an inner node is put away.
use Rattle.std.proofs.Common.{◌≡◌, ◌≢◌, ◌⊎◌, ℕ, zero, suc, ◌+◌, ◌*◌, ◌/◌, ◌%◌, ◌<◌, ◌≤◌, false, List, Option, Some, IsSomeAnd, IfSome, slice_index, refl, sym, subst, ap, ◌∙◌, arith, inl, inr}
use Rattle.std.proofs.lemmas.Bool.{cases_eq, cases_Bool, false_from_ne_true}
use Rattle.std.proofs.Math.Nat.{mul-le-mul_left}
use Rattle.blossom_match.specs.declared.costs.Costs.{Costs}
use Rattle.blossom_match.specs.declared.state.State.{State}
use Rattle.blossom_match.specs.declared.state.Pair.{Pair}
use Rattle.blossom_match.specs.declared.state.Label.{Label}
use Rattle.blossom_match.specs.declared.state.Label.TheVariants.{Free, Outer, Inner}
use Rattle.blossom_match.specs.Views.{holds, turned, link_at, mate_at, label_at}
use Rattle.blossom_match.specs.Between.{IsMatched, IsReached, IsTight, IsTree, after}
use Rattle.blossom_match.proofs.Augmenting.{some_same}
use Rattle.blossom_match.proofs.Growing.{if_some_at}
use Rattle.blossom_match.proofs.Keeping.{odd_member}
use Rattle.blossom_match.proofs.Moving.{is_some_map}
use Rattle.blossom_match.proofs.Raising.{inner_not_free, outer_not_free}
use Rattle.blossom_match.proofs.UnfoldingTops.{some_is, some_pair}
use Rattle.blossom_match.proofs.UnfoldingSets.{at_base}
use Rattle.blossom_match.proofs.ExpandingWay.{IsExpanding, IsOld, node, outer_off, off_way, other_node, label_kept, entry_kept, mate_kept, way_cases, old_node, even_label, odd_label, mate_up, mate_down, joined, scale, floor, depth_now, depth_on, depth_off, nodes_apart}

inner_outer : Inner ≡ Outer → ⊥
inner_outer e = cc

-- how an inner node on the way was entered, and how deep the outer node above it is
record IsEntered {costs : Costs} {before : State} {s base : ℕ} {p : Pair} {top' : List ℕ} {mate' : List (Option Pair)} {label' : List Label} {entry' : List Pair} (x : IsExpanding costs before s base p top' mate' label' entry') (i : ℕ) : Type 0 where
  tight : IsTight costs before.size top' before.sums.items (link_at entry' (node x (2 * i)))
  here : slice_index top' (link_at entry' (node x (2 * i))).inside ≡ node x (2 * i)
  above : label_at label' (slice_index top' (link_at entry' (node x (2 * i))).outside) ≡ Outer
  low : ℕ
  low_less : low < suc (2 * i)
  depth : depth_now x (slice_index top' (link_at entry' (node x (2 * i))).outside) ≡ scale x * floor x + low

entered_first : {costs : Costs} {before : State} {s base : ℕ} {p : Pair} {top' : List ℕ} {mate' : List (Option Pair)} {label' : List Label} {entry' : List Pair} → (x : IsExpanding costs before s base p top' mate' label' entry') →
    IsEntered x 0
entered_first {costs = costs} {before = before} {s = s} {base = base} {top' = top'} {label' = label'} {entry' = entry'} x =
    let e_is : link_at entry' (node x 0) ≡ link_at before.entry.items s = ap (λ t. link_at entry' t) x.way.begins ∙ x.way.entered in
    let off : holds before.size before.held.items s (link_at before.entry.items s).outside ≡ false = outer_off x (link_at before.entry.items s).outside x.reached.entry_tight.outside_in x.reached.above in
    let at : slice_index top' (link_at before.entry.items s).outside ≡ slice_index before.top.items (link_at before.entry.items s).outside = x.z.opening.off (link_at before.entry.items s).outside x.reached.entry_tight.outside_in off in
    let here : slice_index top' (link_at before.entry.items s).inside ≡ node x 0 = sym x.way.begins in
    let apart : slice_index top' (link_at before.entry.items s).inside ≢ slice_index top' (link_at before.entry.items s).outside =
    λ same. off_way x (link_at before.entry.items s).outside x.reached.entry_tight.outside_in off 0 (omega arith) (sym at ∙ sym same ∙ here) in
    let all : (q : Pair) → q ≡ link_at before.entry.items s → (y : IsTight costs before.size top' before.sums.items q) × (slice_index top' q.inside ≡ node x 0) × (slice_index top' q.outside ≡ slice_index before.top.items (link_at before.entry.items s).outside) =
    λ q is. subst (λ r. (y : IsTight costs before.size top' before.sums.items r) × (slice_index top' r.inside ≡ node x 0) × (slice_index top' r.outside ≡ slice_index before.top.items (link_at before.entry.items s).outside)) (sym is)
    (record { inside_in = x.reached.entry_tight.inside_in; outside_in = x.reached.entry_tight.outside_in; apart = apart; tight = x.reached.entry_tight.tight }, here, at) in
    let now = all (link_at entry' (node x 0)) e_is in
    record {
      tight = now.0;
      here = now.1;
      above = ap (λ t. label_at label' t) now.2 ∙ label_kept x (link_at before.entry.items s).outside x.reached.entry_tight.outside_in off ∙ x.reached.above;
      low = 0;
      low_less = omega arith;
      depth = ap (λ t. depth_now x t) now.2 ∙ depth_off x (link_at before.entry.items s).outside x.reached.entry_tight.outside_in off ∙ plus_none (scale x * floor x);
    }
  where
    plus_none : (a : ℕ) → a ≡ a + 0
    plus_none a = omega arith

entered_later : {costs : Costs} {before : State} {s base : ℕ} {p : Pair} {top' : List ℕ} {mate' : List (Option Pair)} {label' : List Label} {entry' : List Pair} → (x : IsExpanding costs before s base p top' mate' label' entry') →
    (i j : ℕ) → j < x.way.turns → i ≡ suc j → IsEntered x i
entered_later {costs = costs} {before = before} {s = s} {base = base} {top' = top'} {label' = label'} {entry' = entry'} x i j j_in follows =
    let twice : suc (suc (2 * j)) ≡ 2 * i = omega (arith, follows) in
    let a_in = x.way.in_len (suc (suc (2 * j))) (omega (arith, j_in)) in
    let b_in = x.way.in_len (suc (2 * j)) (omega (arith, j_in)) in
    let w = joined x (link_at entry' (node x (suc (suc (2 * j))))) (x.way.spot (suc (suc (2 * j)))) (x.way.spot (suc (2 * j))) a_in b_in (x.way.steps j j_in) in
    let here : slice_index top' (link_at entry' (node x (suc (suc (2 * j))))).inside ≡ node x (suc (suc (2 * j))) =
    x.z.opening.own (x.way.spot (suc (suc (2 * j)))) (link_at entry' (node x (suc (suc (2 * j))))).inside a_in w.inside_in w.here in
    let there : slice_index top' (link_at entry' (node x (suc (suc (2 * j))))).outside ≡ node x (suc (2 * j)) =
    x.z.opening.own (x.way.spot (suc (2 * j))) (link_at entry' (node x (suc (suc (2 * j))))).outside b_in w.outside_in w.there in
    let apart : slice_index top' (link_at entry' (node x (suc (suc (2 * j))))).inside ≢ slice_index top' (link_at entry' (node x (suc (suc (2 * j))))).outside =
    λ same. nodes_apart x (suc (suc (2 * j))) (suc (2 * j)) (omega (arith, j_in)) (omega (arith, j_in)) (λ e. omega (arith, e)) (sym here ∙ same ∙ there) in
    let all : (k : ℕ) → suc (suc (2 * j)) ≡ k →
    (y : IsTight costs before.size top' before.sums.items (link_at entry' (node x k))) × (slice_index top' (link_at entry' (node x k)).inside ≡ node x k) × (slice_index top' (link_at entry' (node x k)).outside ≡ node x (suc (2 * j))) =
    λ k is. subst (λ k. (y : IsTight costs before.size top' before.sums.items (link_at entry' (node x k))) × (slice_index top' (link_at entry' (node x k)).inside ≡ node x k) × (slice_index top' (link_at entry' (node x k)).outside ≡ node x (suc (2 * j)))) is (
      record {
        inside_in = w.inside_in;
        outside_in = w.outside_in;
        apart = apart;
        tight = x.tight_now (link_at entry' (node x (suc (suc (2 * j))))).inside (link_at entry' (node x (suc (suc (2 * j))))).outside w.inside_in w.outside_in apart w.tight;
      },
      here,
      there,
    ) in
    let now = all (2 * i) twice in
    record {
      tight = now.0;
      here = now.1;
      above = ap (λ t. label_at label' t) now.2 ∙ x.way.outer j j_in;
      low = suc (2 * j);
      low_less = omega (arith, follows);
      depth = ap (λ t. depth_now x t) now.2 ∙ depth_on x (suc (2 * j)) (omega (arith, j_in));
    }

entered_at : {costs : Costs} {before : State} {s base : ℕ} {p : Pair} {top' : List ℕ} {mate' : List (Option Pair)} {label' : List Label} {entry' : List Pair} → (x : IsExpanding costs before s base p top' mate' label' entry') →
    (i : ℕ) → i ≤ x.way.turns → IsEntered x i
entered_at x zero i_in = entered_first x
entered_at x (suc j) i_in = entered_later x (suc j) j (omega (arith, i_in)) refl

-- the mate of an inner node on the way, and how deep it is
record IsMated {costs : Costs} {before : State} {s base : ℕ} {p : Pair} {top' : List ℕ} {mate' : List (Option Pair)} {label' : List Label} {entry' : List Pair} (x : IsExpanding costs before s base p top' mate' label' entry') (i : ℕ) : Type 0 where
  pair : Pair
  is : mate_at mate' (node x (2 * i)) ≡ Some pair
  below : label_at label' (slice_index top' pair.outside) ≡ Outer
  deeper : (depth_now x (slice_index top' pair.outside) ≡ scale x * floor x + suc (2 * i)) ⊎ (scale x * floor x + scale x ≤ depth_now x (slice_index top' pair.outside))

old_depth : {costs : Costs} {before : State} {s base : ℕ} {p : Pair} {top' : List ℕ} {mate' : List (Option Pair)} {label' : List Label} {entry' : List Pair} → (x : IsExpanding costs before s base p top' mate' label' entry') →
    s < 2 * before.size → floor x < x.searching.tree.depth (slice_index before.top.items p.outside)
old_depth {before = before} {s = s} {p = p} x s_in =
    if_some_at (mate_at before.mate.items s) (λ q. x.searching.tree.depth (slice_index before.top.items (link_at before.entry.items s).outside) < x.searching.tree.depth (slice_index before.top.items q.outside)) p x.z.matched
    (x.searching.tree.deeper s s_in x.inner)

more_room : (k a b : ℕ) → a < b → k * a + k ≤ k * b
more_room k a b less = (let up = mul-le-mul_left k less in omega (arith, up))

mated_last : {costs : Costs} {before : State} {s base : ℕ} {p : Pair} {top' : List ℕ} {mate' : List (Option Pair)} {label' : List Label} {entry' : List Pair} → (x : IsExpanding costs before s base p top' mate' label' entry') →
    s < 2 * before.size → (i : ℕ) → i ≡ x.way.turns → IsMated x i
mated_last {costs = costs} {before = before} {s = s} {base = base} {p = p} {top' = top'} {mate' = mate'} {label' = label'} x s_in i last =
    let off : holds before.size before.held.items s p.outside ≡ false = outer_off x p.outside x.z.paired.outside_in x.reached.below in
    let at : slice_index top' p.outside ≡ slice_index before.top.items p.outside = x.z.opening.off p.outside x.z.paired.outside_in off in
    let room : scale x * floor x + scale x ≤ scale x * x.searching.tree.depth (slice_index before.top.items p.outside) = more_room (scale x) (floor x) (x.searching.tree.depth (slice_index before.top.items p.outside)) (old_depth x s_in) in
    record {
      pair = p;
      is = ap (λ k. mate_at mate' (after before.next.items (x.way.spot (2 * k)) base)) last ∙ ap (λ k. mate_at mate' (after before.next.items k base)) x.way.ends ∙ x.z.opening.at_base;
      below = ap (λ t. label_at label' t) at ∙ label_kept x p.outside x.z.paired.outside_in off ∙ x.reached.below;
      deeper = inr (subst (λ y. scale x * floor x + scale x ≤ y) (sym (ap (λ t. depth_now x t) at ∙ depth_off x p.outside x.z.paired.outside_in off)) room);
    }

mated_on : {costs : Costs} {before : State} {s base : ℕ} {p : Pair} {top' : List ℕ} {mate' : List (Option Pair)} {label' : List Label} {entry' : List Pair} → (x : IsExpanding costs before s base p top' mate' label' entry') →
    (i : ℕ) → i < x.way.turns → IsMated x i
mated_on {label' = label'} x i i_in =
    let q = mate_up x i i_in in
    record {
      pair = q.0;
      is = q.1;
      below = ap (λ t. label_at label' t) q.2 ∙ x.way.outer i i_in;
      deeper = inl (ap (λ t. depth_now x t) q.2 ∙ depth_on x (suc (2 * i)) (omega (arith, i_in)));
    }

mated_at : {costs : Costs} {before : State} {s base : ℕ} {p : Pair} {top' : List ℕ} {mate' : List (Option Pair)} {label' : List Label} {entry' : List Pair} → (x : IsExpanding costs before s base p top' mate' label' entry') →
    s < 2 * before.size → (i : ℕ) → i ≤ x.way.turns → IsMated x i
mated_at x s_in i i_in = elim (cases_eq i x.way.turns) [
  | inl last ↦ mated_last x s_in i last
  | inr other ↦ mated_on x i (omega (arith, other, i_in))
]

-- a node on the way is deeper than the one by which it was entered
deeper_at : {costs : Costs} {before : State} {s base : ℕ} {p : Pair} {top' : List ℕ} {mate' : List (Option Pair)} {label' : List Label} {entry' : List Pair} → (x : IsExpanding costs before s base p top' mate' label' entry') →
    (i : ℕ) → i ≤ x.way.turns → (e : IsEntered x i) → (m : IsMated x i) → depth_now x (slice_index top' (link_at entry' (node x (2 * i))).outside) < depth_now x (slice_index top' m.pair.outside)
deeper_at {top' = top'} {entry' = entry'} x i i_in e m =
    subst (λ y. y < depth_now x (slice_index top' m.pair.outside)) (sym e.depth)
    (elim m.deeper [
      | inl is ↦ subst (λ y. scale x * floor x + e.low < y) (sym is) (less_plus (scale x * floor x) e.low (suc (2 * i)) e.low_less)
      | inr up ↦ less_most (scale x * floor x) e.low (scale x) (depth_now x (slice_index top' m.pair.outside)) (within e.low i x.way.turns e.low_less i_in) up
    ])
  where
    less_plus : (a b c : ℕ) → b < c → a + b < a + c
    less_plus a b c less = omega (arith, less)

    less_most : (a b c d : ℕ) → b < c → a + c ≤ d → a + b < d
    less_most a b c d less up = omega (arith, less, up)

    within : (low i turns : ℕ) → low < suc (2 * i) → i ≤ turns → low < suc (2 * turns)
    within low i turns less below = omega (arith, less, below)

reached_at : {costs : Costs} {before : State} {s base : ℕ} {p : Pair} {top' : List ℕ} {mate' : List (Option Pair)} {label' : List Label} {entry' : List Pair} → (x : IsExpanding costs before s base p top' mate' label' entry') →
    s < 2 * before.size → (i : ℕ) → i ≤ x.way.turns →
    IsSomeAnd (mate_at mate' (node x (2 * i))) (IsReached costs before.size top' before.sums.items label' (link_at entry' (node x (2 * i))) (node x (2 * i)))
reached_at {costs = costs} {before = before} {top' = top'} {mate' = mate'} {label' = label'} {entry' = entry'} x s_in i i_in =
    let e = entered_at x i i_in in
    let m = mated_at x s_in i i_in in
    let less = deeper_at x i i_in e m in
    some_is (mate_at mate' (node x (2 * i))) (IsReached costs before.size top' before.sums.items label' (link_at entry' (node x (2 * i))) (node x (2 * i))) m.pair m.is
    (record {
      entry_tight = e.tight;
      entry_here = e.here;
      above = e.above;
      below = m.below;
      forks = λ same. not_less (depth_now x (slice_index top' (link_at entry' (node x (2 * i))).outside)) (depth_now x (slice_index top' m.pair.outside)) less (ap (λ t. depth_now x t) same);
    })
  where
    not_less : (a b : ℕ) → a < b → a ≡ b → ⊥
    not_less a b less is = omega (arith, less, is)

-- an inner node elsewhere
reached_old : {costs : Costs} {before : State} {s base : ℕ} {p : Pair} {top' : List ℕ} {mate' : List (Option Pair)} {label' : List Label} {entry' : List Pair} → (x : IsExpanding costs before s base p top' mate' label' entry') →
    (t : ℕ) → t < 2 * before.size → label_at label' t ≡ Inner → IsOld x t → IsSomeAnd (mate_at mate' t) (IsReached costs before.size top' before.sums.items label' (link_at entry' t) t)
reached_old {costs = costs} {before = before} {s = s} {top' = top'} {mate' = mate'} {label' = label'} {entry' = entry'} x t t_in inner o =
    let mate_is : mate_at mate' t ≡ mate_at before.mate.items t = ap (λ y. mate_at mate' y) (sym o.at) ∙ mate_kept x o.member o.member_in o.off ∙ ap (λ y. mate_at before.mate.items y) o.at in
    let entry_is : link_at entry' t ≡ link_at before.entry.items t = ap (λ y. link_at entry' y) (sym o.at) ∙ entry_kept x o.member o.member_in o.off ∙ ap (λ y. link_at before.entry.items y) o.at in
    subst (λ m. IsSomeAnd m (IsReached costs before.size top' before.sums.items label' (link_at entry' t) t)) (sym mate_is)
    (subst (λ q. IsSomeAnd (mate_at before.mate.items t) (IsReached costs before.size top' before.sums.items label' q t)) (sym entry_is)
    (is_some_map (mate_at before.mate.items t) (IsReached costs before.size before.top.items before.sums.items before.label.items (link_at before.entry.items t) t)
    (IsReached costs before.size top' before.sums.items label' (link_at before.entry.items t) t)
    (λ q is h.
    let in_off : holds before.size before.held.items s (link_at before.entry.items t).inside ≡ false = false_from_ne_true (holds before.size before.held.items s (link_at before.entry.items t).inside)
    (λ on. other_node x o.member o.member_in o.off (o.at ∙ sym h.entry_here ∙ x.z.topmost (link_at before.entry.items t).inside h.entry_tight.inside_in on)) in
    let out_off = outer_off x (link_at before.entry.items t).outside h.entry_tight.outside_in h.above in
    let m = if_some_at (mate_at before.mate.items (slice_index before.top.items o.member)) (IsMatched costs before.size before.top.items before.sums.items before.mate.items (slice_index before.top.items o.member)) q
    (ap (λ y. mate_at before.mate.items y) o.at ∙ is) (x.searching.so_far.matched o.member o.member_in) in
    let q_off = outer_off x q.outside m.tight.outside_in h.below in
    let in_at = x.z.opening.off (link_at before.entry.items t).inside h.entry_tight.inside_in in_off in
    let out_at = x.z.opening.off (link_at before.entry.items t).outside h.entry_tight.outside_in out_off in
    let q_at = x.z.opening.off q.outside m.tight.outside_in q_off in
    record {
      entry_tight = record {
        inside_in = h.entry_tight.inside_in;
        outside_in = h.entry_tight.outside_in;
        apart = λ same. h.entry_tight.apart (sym in_at ∙ same ∙ out_at);
        tight = h.entry_tight.tight;
      };
      entry_here = in_at ∙ h.entry_here;
      above = ap (λ y. label_at label' y) out_at ∙ label_kept x (link_at before.entry.items t).outside h.entry_tight.outside_in out_off ∙ h.above;
      below = ap (λ y. label_at label' y) q_at ∙ label_kept x q.outside m.tight.outside_in q_off ∙ h.below;
      forks = λ same. h.forks (sym out_at ∙ same ∙ q_at);
    })
    (x.searching.tree.inner t t_in (sym o.label ∙ inner))))

deeper_old : {costs : Costs} {before : State} {s base : ℕ} {p : Pair} {top' : List ℕ} {mate' : List (Option Pair)} {label' : List Label} {entry' : List Pair} → (x : IsExpanding costs before s base p top' mate' label' entry') →
    (t : ℕ) → t < 2 * before.size → label_at label' t ≡ Inner → IsOld x t → IfSome (mate_at mate' t) (λ q. depth_now x (slice_index top' (link_at entry' t).outside) < depth_now x (slice_index top' q.outside))
deeper_old {costs = costs} {before = before} {s = s} {top' = top'} {mate' = mate'} {label' = label'} {entry' = entry'} x t t_in inner o =
    let mate_is : mate_at mate' t ≡ mate_at before.mate.items t = ap (λ y. mate_at mate' y) (sym o.at) ∙ mate_kept x o.member o.member_in o.off ∙ ap (λ y. mate_at before.mate.items y) o.at in
    let entry_is : link_at entry' t ≡ link_at before.entry.items t = ap (λ y. link_at entry' y) (sym o.at) ∙ entry_kept x o.member o.member_in o.off ∙ ap (λ y. link_at before.entry.items y) o.at in
    let r = some_pair (mate_at before.mate.items t) (IsReached costs before.size before.top.items before.sums.items before.label.items (link_at before.entry.items t) t) (x.searching.tree.inner t t_in (sym o.label ∙ inner)) in
    let m = if_some_at (mate_at before.mate.items (slice_index before.top.items o.member)) (IsMatched costs before.size before.top.items before.sums.items before.mate.items (slice_index before.top.items o.member)) r.0
    (ap (λ y. mate_at before.mate.items y) o.at ∙ r.1) (x.searching.so_far.matched o.member o.member_in) in
    let less = if_some_at (mate_at before.mate.items t) (λ q. x.searching.tree.depth (slice_index before.top.items (link_at before.entry.items t).outside) < x.searching.tree.depth (slice_index before.top.items q.outside)) r.0 r.1
    (x.searching.tree.deeper t t_in (sym o.label ∙ inner)) in
    let out_off = outer_off x (link_at before.entry.items t).outside r.2.entry_tight.outside_in r.2.above in
    let q_off = outer_off x r.0.outside m.tight.outside_in r.2.below in
    let low : depth_now x (slice_index top' (link_at before.entry.items t).outside) ≡ scale x * x.searching.tree.depth (slice_index before.top.items (link_at before.entry.items t).outside) =
    ap (λ y. depth_now x y) (x.z.opening.off (link_at before.entry.items t).outside r.2.entry_tight.outside_in out_off) ∙ depth_off x (link_at before.entry.items t).outside r.2.entry_tight.outside_in out_off in
    let high : depth_now x (slice_index top' r.0.outside) ≡ scale x * x.searching.tree.depth (slice_index before.top.items r.0.outside) =
    ap (λ y. depth_now x y) (x.z.opening.off r.0.outside m.tight.outside_in q_off) ∙ depth_off x r.0.outside m.tight.outside_in q_off in
    subst (λ m. IfSome m (λ q. depth_now x (slice_index top' (link_at entry' t).outside) < depth_now x (slice_index top' q.outside))) (sym (mate_is ∙ r.1))
    (subst (λ e. depth_now x (slice_index top' e.outside) < depth_now x (slice_index top' r.0.outside)) (sym entry_is)
    (scaled (depth_now x (slice_index top' (link_at before.entry.items t).outside)) (depth_now x (slice_index top' r.0.outside)) (2 * x.way.turns)
    (x.searching.tree.depth (slice_index before.top.items (link_at before.entry.items t).outside)) (x.searching.tree.depth (slice_index before.top.items r.0.outside)) low high less))
  where
    scaled : (a b k c d : ℕ) → a ≡ suc k * c → b ≡ suc k * d → c < d → a < b
    scaled a b k c d a_is b_is less = (let room = more_room (suc k) c d less in omega (arith, a_is, b_is, room))

-- an outer node elsewhere
outer_old : {costs : Costs} {before : State} {s base : ℕ} {p : Pair} {top' : List ℕ} {mate' : List (Option Pair)} {label' : List Label} {entry' : List Pair} → (x : IsExpanding costs before s base p top' mate' label' entry') →
    (t : ℕ) → t < 2 * before.size → label_at label' t ≡ Outer → IsOld x t →
    (t ≡ slice_index top' before.root) ⊎ IsSomeAnd (mate_at mate' t) (λ q. label_at label' (slice_index top' q.outside) ≡ Inner)
outer_old {costs = costs} {before = before} {s = s} {base = base} {p = p} {top' = top'} {mate' = mate'} {label' = label'} x t t_in outer o = elim (x.searching.tree.outer t t_in (sym o.label ∙ outer)) [
  | inl root ↦ inl (root ∙ sym (x.z.opening.off before.root x.searching.tree.root_in (outer_off x before.root x.searching.tree.root_in x.searching.tree.root_outer)))
  | inr some ↦
      let mate_is : mate_at mate' t ≡ mate_at before.mate.items t = ap (λ y. mate_at mate' y) (sym o.at) ∙ mate_kept x o.member o.member_in o.off ∙ ap (λ y. mate_at before.mate.items y) o.at in
      inr (subst (λ m. IsSomeAnd m (λ q. label_at label' (slice_index top' q.outside) ≡ Inner)) (sym mate_is)
      (is_some_map (mate_at before.mate.items t) (λ q. label_at before.label.items (slice_index before.top.items q.outside) ≡ Inner) (λ q. label_at label' (slice_index top' q.outside) ≡ Inner)
      (λ q is inner.
      let m = if_some_at (mate_at before.mate.items (slice_index before.top.items o.member)) (IsMatched costs before.size before.top.items before.sums.items before.mate.items (slice_index before.top.items o.member)) q
      (ap (λ y. mate_at before.mate.items y) o.at ∙ is) (x.searching.so_far.matched o.member o.member_in) in
      elim (cases_Bool (holds before.size before.held.items s q.outside)) [
        | inl on ↦
            let same : p ≡ turned q = some_same p (turned q) (sym x.z.matched ∙ ap (λ y. mate_at before.mate.items y) (sym (x.z.topmost q.outside m.tight.outside_in on)) ∙ m.back) in
            let at : slice_index top' q.outside ≡ base = ap (λ y. slice_index top' y.inside) (sym same)
            ∙ at_base costs before.size before.held.items before.halves.items before.child.items before.next.items before.link.items s base p before.top.items top' before.mate.items mate' x.z in
            ap (λ y. label_at label' y) at ∙ ap (λ k. label_at label' (after before.next.items k base)) (sym x.way.ends) ∙ x.way.inner x.way.turns (omega arith)
        | inr off ↦ ap (λ y. label_at label' y) (x.z.opening.off q.outside m.tight.outside_in off) ∙ label_kept x q.outside m.tight.outside_in off ∙ inner
      ])
      some))
]

pub tree_now : {costs : Costs} {before : State} {s base : ℕ} {p : Pair} {top' : List ℕ} {mate' : List (Option Pair)} {label' : List Label} {entry' : List Pair} → (x : IsExpanding costs before s base p top' mate' label' entry') →
    s < 2 * before.size → IsTree costs before.size top' before.sums.items mate' label' entry' before.root
tree_now {costs = costs} {before = before} {s = s} {base = base} {p = p} {top' = top'} {mate' = mate'} {label' = label'} {entry' = entry'} x s_in =
    let tree = x.searching.tree in
    let root_off : holds before.size before.held.items s before.root ≡ false = outer_off x before.root x.searching.tree.root_in x.searching.tree.root_outer in
    let root_at : slice_index top' before.root ≡ slice_index before.top.items before.root = x.z.opening.off before.root x.searching.tree.root_in root_off in
    let was : (v : ℕ) → v < before.size → label_at label' (slice_index top' v) ≢ Free → label_at before.label.items (slice_index before.top.items v) ≢ Free =
    λ v v_in some. elim (cases_Bool (holds before.size before.held.items s v)) [
      | inl on ↦ λ free. inner_not_free (sym x.inner ∙ ap (λ t. label_at before.label.items t) (sym (x.z.topmost v v_in on)) ∙ free)
      | inr off ↦ λ free. some (ap (λ t. label_at label' t) (x.z.opening.off v v_in off) ∙ label_kept x v v_in off ∙ free)
    ] in
    record {
      root_in = tree.root_in;
      root_outer = ap (λ t. label_at label' t) root_at ∙ label_kept x before.root tree.root_in root_off ∙ tree.root_outer;
      root_open = ap (λ t. mate_at mate' t) root_at ∙ mate_kept x before.root tree.root_in root_off ∙ tree.root_open;
      outermost = λ t t_in some. elim (way_cases x t) [
        | inl k ↦
            let place_in = x.way.in_len k.0 k.1 in
            let m = odd_member before.size (holds before.size before.held.items (node x k.0)) (x.z.sets.odd (node x k.0) (x.z.opening.cycle.in_slots (x.way.spot k.0) place_in) (x.z.opening.cycle.used (x.way.spot k.0) place_in)) in
            (m.0, m.1, x.z.opening.own (x.way.spot k.0) m.0 place_in m.1 m.2 ∙ sym k.2)
        | inr away ↦ (let o = old_node x t t_in away some in (o.member, o.member_in, x.z.opening.off o.member o.member_in o.off ∙ o.at))
      ];
      outer = λ t t_in outer. elim (way_cases x t) [
        | inl k ↦ elim (cases_eq (k.0 % 2) 0) [
          | inl even ↦ absurd (inner_outer (sym (even_label x k.0 k.1 even).0 ∙ ap (λ y. label_at label' y) (sym k.2) ∙ outer))
          | inr odd ↦
              let l = odd_label x k.0 k.1 odd in
              let q = mate_down x (k.0 / 2) l.2 in
              inr (some_is (mate_at mate' t) (λ q. label_at label' (slice_index top' q.outside) ≡ Inner) q.0
              (ap (λ y. mate_at mate' y) (k.2 ∙ ap (λ j. node x j) l.1) ∙ q.1)
              (ap (λ y. label_at label' y) q.2 ∙ x.way.inner (k.0 / 2) (omega (arith, l.2))))
        ]
        | inr away ↦ outer_old x t t_in outer (old_node x t t_in away (λ free. outer_not_free (sym outer ∙ free)))
      ];
      inner = λ t t_in inner. elim (way_cases x t) [
        | inl k ↦ elim (cases_eq (k.0 % 2) 0) [
          | inl even ↦
              let l = even_label x k.0 k.1 even in
              subst (λ y. IsSomeAnd (mate_at mate' y) (IsReached costs before.size top' before.sums.items label' (link_at entry' y) y)) (sym (k.2 ∙ ap (λ j. node x j) l.1)) (reached_at x s_in (k.0 / 2) l.2)
          | inr odd ↦ absurd (inner_outer (sym inner ∙ ap (λ y. label_at label' y) k.2 ∙ (odd_label x k.0 k.1 odd).0))
        ]
        | inr away ↦ reached_old x t t_in inner (old_node x t t_in away (λ free. inner_not_free (sym inner ∙ free)))
      ];
      parity = λ u v u_in v_in at_u at_v. tree.parity u v u_in v_in (was u u_in at_u) (was v v_in at_v);
      depth = depth_now x;
      deeper = λ t t_in inner. elim (way_cases x t) [
        | inl k ↦ elim (cases_eq (k.0 % 2) 0) [
          | inl even ↦
              let l = even_label x k.0 k.1 even in
              let m = mated_at x s_in (k.0 / 2) l.2 in
              subst (λ y. IfSome (mate_at mate' y) (λ q. depth_now x (slice_index top' (link_at entry' y).outside) < depth_now x (slice_index top' q.outside))) (sym (k.2 ∙ ap (λ j. node x j) l.1))
              (subst (λ o. IfSome o (λ q. depth_now x (slice_index top' (link_at entry' (node x (2 * (k.0 / 2)))).outside) < depth_now x (slice_index top' q.outside))) (sym m.is)
              (deeper_at x (k.0 / 2) l.2 (entered_at x (k.0 / 2) l.2) m))
          | inr odd ↦ absurd (inner_outer (sym inner ∙ ap (λ y. label_at label' y) k.2 ∙ (odd_label x k.0 k.1 odd).0))
        ]
        | inr away ↦ deeper_old x t t_in inner (old_node x t t_in away (λ free. inner_not_free (sym inner ∙ free)))
      ];
    }
