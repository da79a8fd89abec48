-- The nodes on the even way through a cycle, and the nodes elsewhere.
use Rattle.std.proofs.Common.{◌≡◌, ◌≢◌, ◌⊎◌, ℕ, zero, suc, ◌+◌, ◌*◌, ◌/◌, ◌%◌, ◌<◌, ◌≤◌, true, false, cond, eqb, List, Option, Some, slice_index, refl, sym, subst, ap, ◌∙◌, arith, inl, inr}
use Rattle.std.proofs.lemmas.Bool.{cases_eq, cases_lt, false≢true, false_from_ne_true, eq-eqb, ne_eqb, eqb-true}
use Rattle.blossom_match.specs.declared.costs.Costs.{Costs}
use Rattle.blossom_match.specs.declared.state.State.{State}
use Rattle.blossom_match.specs.declared.state.Pair.{Pair}
use Rattle.blossom_match.specs.declared.state.Label.{Label}
use Rattle.blossom_match.specs.declared.state.Label.TheVariants.{Free, Outer, Inner}
use Rattle.blossom_match.specs.Table.{cost}
use Rattle.blossom_match.specs.Views.{holds, between, link_at, mate_at, label_at}
use Rattle.blossom_match.specs.Between.{IsSearching, IsReached, after}
use Rattle.blossom_match.specs.Expanding.{AreMates, IsStep, IsWayIn}
use Rattle.blossom_match.proofs.Duality.{some_or_none}
use Rattle.blossom_match.proofs.RowsAround.{child_apart}
use Rattle.blossom_match.proofs.RowsOpening.{between_turned}
use Rattle.blossom_match.proofs.UnfoldingTops.{IsOpenedTop, not_child}
use Rattle.blossom_match.proofs.UnfoldingSets.{not_topmost}

-- an inner node is put away, and its children on a way are in the tree
pub record IsExpanding (costs : Costs) (before : State) (s base : ℕ) (p : Pair) (top' : List ℕ) (mate' : List (Option Pair)) (label' : List Label) (entry' : List Pair) : Type 0 where
  pub searching : IsSearching costs before
  pub z : IsOpenedTop costs before.size before.held.items before.halves.items before.child.items before.next.items before.link.items s base p before.top.items top' before.mate.items mate'
  pub reached : IsReached costs before.size before.top.items before.sums.items before.label.items (link_at before.entry.items s) s p
  pub inner : label_at before.label.items s ≡ Inner
  pub label0 : List Label
  pub gone : label_at label0 s ≡ Free
  pub labels : (t : ℕ) → t ≢ s → label_at label0 t ≡ label_at before.label.items t
  pub way : IsWayIn before.next.items before.link.items base (slice_index top' (link_at before.entry.items s).inside) z.opening.cycle.len (link_at before.entry.items s) label0 label' before.entry.items entry'
  pub tight_now : (u v : ℕ) → u < before.size → v < before.size → slice_index top' u ≢ slice_index top' v → between before.size before.held.items before.halves.items u v ≡ 2 * cost costs u v →
      slice_index before.sums.items u + slice_index before.sums.items v ≡ 2 * cost costs u v
  pub same : (u v : ℕ) → u < before.size → v < before.size → cost costs u v ≡ cost costs v u

-- the node at an index of the way
abbrev pub node : {costs : Costs} {before : State} {s base : ℕ} {p : Pair} {top' : List ℕ} {mate' : List (Option Pair)} {label' : List Label} {entry' : List Pair} → IsExpanding costs before s base p top' mate' label' entry' → ℕ → ℕ
node {before = before} {base = base} x k = after before.next.items (x.way.spot k) base

inner_outer : Inner ≡ Outer → ⊥
inner_outer e = cc

-- a member of an outer node is elsewhere
pub outer_off : {costs : Costs} {before : State} {s base : ℕ} {p : Pair} {top' : List ℕ} {mate' : List (Option Pair)} {label' : List Label} {entry' : List Pair} → (x : IsExpanding costs before s base p top' mate' label' entry') →
    (v : ℕ) → v < before.size → label_at before.label.items (slice_index before.top.items v) ≡ Outer → holds before.size before.held.items s v ≡ false
outer_off {before = before} {s = s} x v v_in outer =
    false_from_ne_true (holds before.size before.held.items s v) (λ on. inner_outer (sym x.inner ∙ ap (λ t. label_at before.label.items t) (sym (x.z.topmost v v_in on)) ∙ outer))

pub off_way : {costs : Costs} {before : State} {s base : ℕ} {p : Pair} {top' : List ℕ} {mate' : List (Option Pair)} {label' : List Label} {entry' : List Pair} → (x : IsExpanding costs before s base p top' mate' label' entry') →
    (v : ℕ) → v < before.size → holds before.size before.held.items s v ≡ false → (k : ℕ) → k ≤ 2 * x.way.turns → slice_index before.top.items v ≢ node x k
off_way {costs = costs} {before = before} {s = s} {base = base} x v v_in off k k_in =
    not_child costs before.size before.held.items before.halves.items before.child.items before.next.items before.link.items s base before.top.items x.z.opening.cycle x.z.parts v v_in off (x.way.spot k) (x.way.in_len k k_in)

pub other_node : {costs : Costs} {before : State} {s base : ℕ} {p : Pair} {top' : List ℕ} {mate' : List (Option Pair)} {label' : List Label} {entry' : List Pair} → (x : IsExpanding costs before s base p top' mate' label' entry') →
    (v : ℕ) → v < before.size → holds before.size before.held.items s v ≡ false → slice_index before.top.items v ≢ s
other_node {costs = costs} {before = before} {s = s} {base = base} {p = p} {top' = top'} {mate' = mate'} x v v_in off =
    not_topmost costs before.size before.held.items before.halves.items before.child.items before.next.items before.link.items s base p before.top.items top' before.mate.items mate' x.z v v_in off

pub label_kept : {costs : Costs} {before : State} {s base : ℕ} {p : Pair} {top' : List ℕ} {mate' : List (Option Pair)} {label' : List Label} {entry' : List Pair} → (x : IsExpanding costs before s base p top' mate' label' entry') →
    (v : ℕ) → v < before.size → holds before.size before.held.items s v ≡ false → label_at label' (slice_index before.top.items v) ≡ label_at before.label.items (slice_index before.top.items v)
label_kept {before = before} x v v_in off = x.way.off (slice_index before.top.items v) (off_way x v v_in off) ∙ x.labels (slice_index before.top.items v) (other_node x v v_in off)

pub entry_kept : {costs : Costs} {before : State} {s base : ℕ} {p : Pair} {top' : List ℕ} {mate' : List (Option Pair)} {label' : List Label} {entry' : List Pair} → (x : IsExpanding costs before s base p top' mate' label' entry') →
    (v : ℕ) → v < before.size → holds before.size before.held.items s v ≡ false → link_at entry' (slice_index before.top.items v) ≡ link_at before.entry.items (slice_index before.top.items v)
entry_kept {before = before} x v v_in off = x.way.entries_off (slice_index before.top.items v) (off_way x v v_in off)

pub mate_kept : {costs : Costs} {before : State} {s base : ℕ} {p : Pair} {top' : List ℕ} {mate' : List (Option Pair)} {label' : List Label} {entry' : List Pair} → (x : IsExpanding costs before s base p top' mate' label' entry') →
    (v : ℕ) → v < before.size → holds before.size before.held.items s v ≡ false → mate_at mate' (slice_index before.top.items v) ≡ mate_at before.mate.items (slice_index before.top.items v)
mate_kept {costs = costs} {before = before} {s = s} {base = base} x v v_in off = x.z.opening.mates_off (slice_index before.top.items v)
    (λ k k_in. not_child costs before.size before.held.items before.halves.items before.child.items before.next.items before.link.items s base before.top.items x.z.opening.cycle x.z.parts v v_in off k k_in)

-- a node is on the way or not
pub way_cases : {costs : Costs} {before : State} {s base : ℕ} {p : Pair} {top' : List ℕ} {mate' : List (Option Pair)} {label' : List Label} {entry' : List Pair} → (x : IsExpanding costs before s base p top' mate' label' entry') →
    (t : ℕ) → ((k : ℕ) × (k ≤ 2 * x.way.turns) × (t ≡ node x k)) ⊎ ((k : ℕ) → k ≤ 2 * x.way.turns → t ≢ node x k)
way_cases x t = elim (some_or_none (suc (2 * x.way.turns)) (λ k. eqb t (node x k))) [
  | inl some ↦ inl (some.0, omega (arith, some.1), eqb-true t (node x some.0) some.2)
  | inr none ↦ inr (λ k k_in same. false≢true (sym (none k (omega (arith, k_in))) ∙ eq-eqb t (node x k) same))
]

-- a node of the tree that is not on the way was there before
pub record IsOld {costs : Costs} {before : State} {s base : ℕ} {p : Pair} {top' : List ℕ} {mate' : List (Option Pair)} {label' : List Label} {entry' : List Pair} (x : IsExpanding costs before s base p top' mate' label' entry') (t : ℕ) : Type 0 where
  pub member : ℕ
  pub member_in : member < before.size
  pub at : slice_index before.top.items member ≡ t
  pub off : holds before.size before.held.items s member ≡ false
  pub label : label_at label' t ≡ label_at before.label.items t

pub old_node : {costs : Costs} {before : State} {s base : ℕ} {p : Pair} {top' : List ℕ} {mate' : List (Option Pair)} {label' : List Label} {entry' : List Pair} → (x : IsExpanding costs before s base p top' mate' label' entry') →
    (t : ℕ) → t < 2 * before.size → ((k : ℕ) → k ≤ 2 * x.way.turns → t ≢ node x k) → label_at label' t ≢ Free → IsOld x t
old_node {before = before} {s = s} {label' = label'} x t t_in away some =
    let other : t ≢ s = λ same. some (x.way.off t away ∙ ap (λ y. label_at x.label0 y) same ∙ x.gone) in
    let alike : label_at label' t ≡ label_at before.label.items t = x.way.off t away ∙ x.labels t other in
    let v = x.searching.tree.outermost t t_in (λ free. some (alike ∙ free)) in
    record {
      member = v.0;
      member_in = v.1;
      at = v.2;
      off = false_from_ne_true (holds before.size before.held.items s v.0) (λ on. other (sym v.2 ∙ x.z.topmost v.0 v.1 on));
      label = alike;
    }

pub even_label : {costs : Costs} {before : State} {s base : ℕ} {p : Pair} {top' : List ℕ} {mate' : List (Option Pair)} {label' : List Label} {entry' : List Pair} → (x : IsExpanding costs before s base p top' mate' label' entry') →
    (k : ℕ) → k ≤ 2 * x.way.turns → k % 2 ≡ 0 → (label_at label' (node x k) ≡ Inner) × (k ≡ 2 * (k / 2)) × (k / 2 ≤ x.way.turns)
even_label {label' = label'} x k k_in even =
    let is : k ≡ 2 * (k / 2) = omega (arith, even) in
    let within : k / 2 ≤ x.way.turns = omega (arith, k_in) in
    (subst (λ j. label_at label' (node x j) ≡ Inner) (sym is) (x.way.inner (k / 2) within), is, within)

pub odd_label : {costs : Costs} {before : State} {s base : ℕ} {p : Pair} {top' : List ℕ} {mate' : List (Option Pair)} {label' : List Label} {entry' : List Pair} → (x : IsExpanding costs before s base p top' mate' label' entry') →
    (k : ℕ) → k ≤ 2 * x.way.turns → k % 2 ≢ 0 → (label_at label' (node x k) ≡ Outer) × (k ≡ suc (2 * (k / 2))) × (k / 2 < x.way.turns)
odd_label {label' = label'} x k k_in odd =
    let is : k ≡ suc (2 * (k / 2)) = omega (arith, odd) in
    let within : k / 2 < x.way.turns = omega (arith, k_in, is) in
    (subst (λ j. label_at label' (node x j) ≡ Outer) (sym is) (x.way.outer (k / 2) within), is, within)

mates_turned : (a b : ℕ) → AreMates a b → AreMates b a
mates_turned a b (inl m) = inr (omega (arith, m.0, m.1), m.1)
mates_turned a b (inr m) = inl (omega (arith, m.0, m.1), m.1)

some_mate : (a b : ℕ) → AreMates a b → 1 ≤ a
some_mate a b (inl m) = omega (arith, m.0)
some_mate a b (inr m) = omega (arith, m.1)

one_mate : (a b c : ℕ) → AreMates a b → AreMates a c → b ≡ c
one_mate a b c (inl m) (inl k) = omega (arith, m.1, k.1)
one_mate a b c (inl m) (inr k) = absurd (omega (arith, m.0, k.0))
one_mate a b c (inr m) (inl k) = absurd (omega (arith, m.0, k.0))
one_mate a b c (inr m) (inr k) = omega (arith, m.1, k.1)

-- the children at two places that are mates are matched
pub partner_at : {costs : Costs} {before : State} {s base : ℕ} {p : Pair} {top' : List ℕ} {mate' : List (Option Pair)} {label' : List Label} {entry' : List Pair} → (x : IsExpanding costs before s base p top' mate' label' entry') →
    (a b : ℕ) → a < x.z.opening.cycle.len → AreMates a b → (q : Pair) × (mate_at mate' (after before.next.items a base) ≡ Some q) × (slice_index top' q.outside ≡ after before.next.items b base)
partner_at {before = before} {base = base} x a b a_in m =
    let r = x.z.opening.partner a (some_mate a b m) a_in in
    (r.pair, r.is, x.z.opening.own r.other r.pair.outside r.other_in r.outside_in r.there ∙ ap (λ k. after before.next.items k base) (one_mate a r.other b r.near m))

pub mate_up : {costs : Costs} {before : State} {s base : ℕ} {p : Pair} {top' : List ℕ} {mate' : List (Option Pair)} {label' : List Label} {entry' : List Pair} → (x : IsExpanding costs before s base p top' mate' label' entry') →
    (i : ℕ) → i < x.way.turns → (q : Pair) × (mate_at mate' (node x (2 * i)) ≡ Some q) × (slice_index top' q.outside ≡ node x (suc (2 * i)))
mate_up x i i_in = partner_at x (x.way.spot (2 * i)) (x.way.spot (suc (2 * i))) (x.way.in_len (2 * i) (omega (arith, i_in))) (x.way.mates i i_in)

pub mate_down : {costs : Costs} {before : State} {s base : ℕ} {p : Pair} {top' : List ℕ} {mate' : List (Option Pair)} {label' : List Label} {entry' : List Pair} → (x : IsExpanding costs before s base p top' mate' label' entry') →
    (i : ℕ) → i < x.way.turns → (q : Pair) × (mate_at mate' (node x (suc (2 * i))) ≡ Some q) × (slice_index top' q.outside ≡ node x (2 * i))
mate_down x i i_in = partner_at x (x.way.spot (suc (2 * i))) (x.way.spot (2 * i)) (x.way.in_len (suc (2 * i)) (omega (arith, i_in))) (mates_turned (x.way.spot (2 * i)) (x.way.spot (suc (2 * i))) (x.way.mates i i_in))

-- a link between two children, seen from the first
pub record IsJoined (costs : Costs) (before : State) (one other : ℕ) (e : Pair) : Type 0 where
  pub inside_in : e.inside < before.size
  pub outside_in : e.outside < before.size
  pub here : holds before.size before.held.items one e.inside ≡ true
  pub there : holds before.size before.held.items other e.outside ≡ true
  pub tight : between before.size before.held.items before.halves.items e.inside e.outside ≡ 2 * cost costs e.inside e.outside

pub joined : {costs : Costs} {before : State} {s base : ℕ} {p : Pair} {top' : List ℕ} {mate' : List (Option Pair)} {label' : List Label} {entry' : List Pair} → (x : IsExpanding costs before s base p top' mate' label' entry') →
    (e : Pair) (a b : ℕ) → a < x.z.opening.cycle.len → b < x.z.opening.cycle.len → IsStep before.next.items before.link.items base e a b →
    IsJoined costs before (after before.next.items a base) (after before.next.items b base) e
joined {costs = costs} {before = before} {base = base} x e a b a_in b_in (inl is) =
    let l = x.z.opening.cycle.links a a_in in
    subst (λ q. IsJoined costs before (after before.next.items a base) (after before.next.items b base) q) (sym is.0)
    (record {
      inside_in = l.inside_in;
      outside_in = l.outside_in;
      here = l.leaves;
      there = subst (λ y. holds before.size before.held.items y (link_at before.link.items (after before.next.items a base)).outside ≡ true) is.1 l.enters;
      tight = l.tight;
    })
joined {costs = costs} {before = before} {base = base} x e a b a_in b_in (inr is) =
    let l = x.z.opening.cycle.links b b_in in
    subst (λ q. IsJoined costs before (after before.next.items a base) (after before.next.items b base) q) (sym is.0)
    (record {
      inside_in = l.outside_in;
      outside_in = l.inside_in;
      here = subst (λ y. holds before.size before.held.items y (link_at before.link.items (after before.next.items b base)).outside ≡ true) is.1 l.enters;
      there = l.leaves;
      tight = between_turned before.size before.held.items before.halves.items (link_at before.link.items (after before.next.items b base)).outside (link_at before.link.items (after before.next.items b base)).inside ∙ l.tight
          ∙ ap (λ y. 2 * y) (x.same (link_at before.link.items (after before.next.items b base)).inside (link_at before.link.items (after before.next.items b base)).outside l.inside_in l.outside_in);
    })

-- a number for each node on the way, and another one elsewhere
abbrev pub deep : ℕ → (ℕ → ℕ) → ℕ → ℕ → ℕ → ℕ
deep zero spot low t other = other
deep (suc k) spot low t other = cond (eqb (spot k) t) (low + k) (deep k spot low t other)

deep_at : (count : ℕ) (spot : ℕ → ℕ) (low t other k : ℕ) → k < count → spot k ≡ t → ((j : ℕ) → j < count → j ≢ k → spot j ≢ t) → deep count spot low t other ≡ low + k
deep_at zero spot low t other k k_in is lone = absurd (omega (arith, k_in))
deep_at (suc c) spot low t other k k_in is lone = elim (cases_eq k c) [
  | inl same ↦ ap (λ b. cond b (low + c) (deep c spot low t other)) (eq-eqb (spot c) t (ap spot (sym same) ∙ is)) ∙ ap (λ y. low + y) (sym same)
  | inr differ ↦ ap (λ b. cond b (low + c) (deep c spot low t other)) (ne_eqb (spot c) t (lone c (omega arith) (λ e. differ (sym e))))
      ∙ deep_at c spot low t other k (omega (arith, k_in, differ)) is (λ j j_in apart. lone j (omega (arith, j_in)) apart)
]

deep_off : (count : ℕ) (spot : ℕ → ℕ) (low t other : ℕ) → ((j : ℕ) → j < count → spot j ≢ t) → deep count spot low t other ≡ other
deep_off zero spot low t other none = refl
deep_off (suc c) spot low t other none =
    ap (λ b. cond b (low + c) (deep c spot low t other)) (ne_eqb (spot c) t (none c (omega arith))) ∙ deep_off c spot low t other (λ j j_in. none j (omega (arith, j_in)))

-- the depths of the new tree
abbrev pub scale : {costs : Costs} {before : State} {s base : ℕ} {p : Pair} {top' : List ℕ} {mate' : List (Option Pair)} {label' : List Label} {entry' : List Pair} → IsExpanding costs before s base p top' mate' label' entry' → ℕ
scale x = suc (2 * x.way.turns)

abbrev pub floor : {costs : Costs} {before : State} {s base : ℕ} {p : Pair} {top' : List ℕ} {mate' : List (Option Pair)} {label' : List Label} {entry' : List Pair} → IsExpanding costs before s base p top' mate' label' entry' → ℕ
floor {before = before} {s = s} x = x.searching.tree.depth (slice_index before.top.items (link_at before.entry.items s).outside)

abbrev pub depth_now : {costs : Costs} {before : State} {s base : ℕ} {p : Pair} {top' : List ℕ} {mate' : List (Option Pair)} {label' : List Label} {entry' : List Pair} → IsExpanding costs before s base p top' mate' label' entry' → ℕ → ℕ
depth_now x t = deep (suc (2 * x.way.turns)) (node x) (scale x * floor x) t (scale x * x.searching.tree.depth t)

pub nodes_apart : {costs : Costs} {before : State} {s base : ℕ} {p : Pair} {top' : List ℕ} {mate' : List (Option Pair)} {label' : List Label} {entry' : List Pair} → (x : IsExpanding costs before s base p top' mate' label' entry') →
    (j k : ℕ) → j ≤ 2 * x.way.turns → k ≤ 2 * x.way.turns → j ≢ k → node x j ≢ node x k
nodes_apart {costs = costs} {before = before} {s = s} {base = base} x j k j_in k_in other =
    child_apart costs before.size before.held.items before.halves.items before.child.items before.next.items before.link.items s base x.z.sets x.z.opening.cycle (x.way.spot j) (x.way.spot k) (x.way.in_len j j_in) (x.way.in_len k k_in)
    (elim (cases_lt j k) [
      | inl less ↦ x.way.apart j k less k_in
      | inr more ↦ λ same. x.way.apart k j (omega (arith, more, other)) j_in (sym same)
    ])

pub depth_on : {costs : Costs} {before : State} {s base : ℕ} {p : Pair} {top' : List ℕ} {mate' : List (Option Pair)} {label' : List Label} {entry' : List Pair} → (x : IsExpanding costs before s base p top' mate' label' entry') →
    (k : ℕ) → k ≤ 2 * x.way.turns → depth_now x (node x k) ≡ scale x * floor x + k
depth_on x k k_in = deep_at (suc (2 * x.way.turns)) (node x) (scale x * floor x) (node x k) (scale x * x.searching.tree.depth (node x k)) k (omega (arith, k_in)) refl
    (λ j j_in other. nodes_apart x j k (omega (arith, j_in)) k_in other)

pub depth_off : {costs : Costs} {before : State} {s base : ℕ} {p : Pair} {top' : List ℕ} {mate' : List (Option Pair)} {label' : List Label} {entry' : List Pair} → (x : IsExpanding costs before s base p top' mate' label' entry') →
    (v : ℕ) → v < before.size → holds before.size before.held.items s v ≡ false → depth_now x (slice_index before.top.items v) ≡ scale x * x.searching.tree.depth (slice_index before.top.items v)
depth_off {before = before} x v v_in off = deep_off (suc (2 * x.way.turns)) (node x) (scale x * floor x) (slice_index before.top.items v) (scale x * x.searching.tree.depth (slice_index before.top.items v))
    (λ j j_in same. off_way x v v_in off j (omega (arith, j_in)) (sym same))
