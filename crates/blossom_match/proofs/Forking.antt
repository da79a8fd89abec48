-- Two ways up the tree close an odd cycle.
use Rattle.std.proofs.Common.{◌≡◌, ◌≢◌, ◌⊎◌, ℕ, zero, suc, ◌+◌, ◌*◌, ◌%◌, ◌<◌, ◌≤◌, Bool, true, false, cond, List, Option, Some, None, length, slice_index, refl, sym, subst, ap, ◌∙◌, arith, inl, inr}
use Rattle.std.proofs.lemmas.Bool.{cases_lt, false≢true, le-leb, leb-true, or_left, or_right, or_cases}
use Rattle.std.proofs.lemmas.List.{get_or_past}
use Rattle.blossom_match.specs.declared.costs.Costs.{Costs}
use Rattle.blossom_match.specs.declared.state.State.{State}
use Rattle.blossom_match.specs.declared.state.Pair.{Pair}
use Rattle.blossom_match.specs.declared.state.Label.{Label}
use Rattle.blossom_match.specs.declared.state.Label.TheVariants.{Free, Outer, Inner}
use Rattle.blossom_match.specs.Table.{IsTable}
use Rattle.blossom_match.specs.Views.{label_at, mate_at, link_at, turned, is_outer}
use Rattle.blossom_match.specs.Turns.{top_of, label_of}
use Rattle.blossom_match.specs.Ways.{AreAimed, IsWayUp, IsWay, IsJoin, IsFork, IsForked, above, climb, way_at, is_within, on_cycle}
use Rattle.blossom_match.specs.Between.{IsTight, IsSearching}
use Rattle.blossom_match.proofs.Moving.{label_cases}
use Rattle.blossom_match.proofs.Growing.{if_some_at}
use Rattle.blossom_match.proofs.Augmenting.{some_same}
use Rattle.blossom_match.proofs.Limits.{inside_of, some_value}
use Rattle.blossom_match.proofs.Rooting.{matched_at}
use Rattle.blossom_match.proofs.Climbing.{some_number}

abbrev pub flip : Label → Label
flip Outer = Inner
flip Inner = Outer
flip Free = Free

-- the label after so many steps up from an outer node
abbrev pub side : ℕ → Label
side zero = Outer
side (suc k) = flip (side k)

outer_inner : Outer ≡ Inner → ⊥
outer_inner e = cc

free_inner : Free ≡ Inner → ⊥
free_inner e = cc

free_outer : Free ≡ Outer → ⊥
free_outer e = cc

flip_inner : (l : Label) → flip l ≡ Inner → l ≡ Outer
flip_inner Outer e = refl
flip_inner Inner e = absurd (outer_inner e)
flip_inner Free e = absurd (free_inner e)

flip_some : (l : Label) → l ≢ Free → flip l ≢ Free
flip_some Outer some e = free_inner (sym e)
flip_some Inner some e = free_outer (sym e)
flip_some Free some e = some refl

pub side_some : (k : ℕ) → side k ≢ Free
side_some zero e = free_outer (sym e)
side_some (suc k) e = flip_some (side k) (side_some k) e

pub side_even : (k : ℕ) → (side k ≡ Outer → k % 2 ≡ 0) × (side k ≡ Inner → k % 2 ≡ 1)
side_even zero = (λ e. refl, λ e. absurd (outer_inner e))
side_even (suc k) =
    let p = side_even k in (
      λ e. label_cases (side k) (suc k % 2 ≡ 0) (λ free. absurd (side_some k free)) (λ outer. absurd (outer_inner (sym e ∙ ap flip outer))) (λ inner. let odd = p.1 inner in omega (arith, odd)),
      λ e. label_cases (side k) (suc k % 2 ≡ 1) (λ free. absurd (side_some k free)) (λ outer. let even = p.0 outer in omega (arith, even)) (λ inner. absurd (outer_inner (sym (ap flip inner) ∙ e))),
    )

-- falls with each step up
abbrev pub height : State → (ℕ → ℕ) → ℕ → ℕ
height state depth s = cond (is_outer (label_of state s)) (2 * depth s) (2 * depth (above state.top.items state.entry.items s) + 1)

pub height_outer : (state : State) (depth : ℕ → ℕ) (s : ℕ) → label_of state s ≡ Outer → height state depth s ≡ 2 * depth s
height_outer state depth s outer = ap (λ l. cond (is_outer l) (2 * depth s) (2 * depth (above state.top.items state.entry.items s) + 1)) outer

height_inner : (state : State) (depth : ℕ → ℕ) (s : ℕ) → label_of state s ≡ Inner → height state depth s ≡ 2 * depth (above state.top.items state.entry.items s) + 1
height_inner state depth s inner = ap (λ l. cond (is_outer l) (2 * depth s) (2 * depth (above state.top.items state.entry.items s) + 1)) inner

-- one step up
pub record IsRise (costs : Costs) (state : State) (depth : ℕ → ℕ) (s : ℕ) : Type 0 where
  pub tight : IsTight costs state.size state.top.items state.sums.items (link_at state.entry.items s)
  pub here : top_of state (link_at state.entry.items s).inside ≡ s
  pub flips : label_of state (above state.top.items state.entry.items s) ≡ flip (label_of state s)
  pub lower : height state depth (above state.top.items state.entry.items s) < height state depth s
  pub pairs : label_of state s ≡ Outer →
      (mate_at state.mate.items s ≡ Some (link_at state.entry.items s)) × (mate_at state.mate.items (above state.top.items state.entry.items s) ≡ Some (turned (link_at state.entry.items s)))

rise_outer : (costs : Costs) (state : State) (s : ℕ) → (searching : IsSearching costs state) → AreAimed (2 * state.size) state.mate.items state.label.items state.entry.items → s < 2 * state.size →
    label_of state s ≡ Outer → s ≢ top_of state state.root → IsRise costs state searching.tree.depth s
rise_outer costs state s searching aimed s_in outer other = elim (searching.tree.outer s s_in outer) [
  | inl root ↦ absurd (other root)
  | inr some ↦
      let q = some_value (mate_at state.mate.items s) (λ p. label_at state.label.items (slice_index state.top.items p.outside) ≡ Inner) some in
      let p = q.0 in
      let aim : link_at state.entry.items s ≡ q.0 = if_some_at (mate_at state.mate.items s) (λ p. link_at state.entry.items s ≡ p) q.0 q.1 (aimed s s_in outer) in
      let m = matched_at costs state searching s q.0 s_in (λ free. free_outer (sym free ∙ outer)) q.1 in
      let up : above state.top.items state.entry.items s ≡ top_of state q.0.outside = ap (λ x. top_of state x.outside) aim in
      let inner : label_of state (above state.top.items state.entry.items s) ≡ Inner = ap (λ x. label_of state x) up ∙ q.2 in
      let i_in = searching.so_far.tops.top_in q.0.outside m.tight.outside_in in
      let deeper = if_some_at (mate_at state.mate.items (top_of state q.0.outside))
      (λ r. searching.tree.depth (slice_index state.top.items (link_at state.entry.items (top_of state q.0.outside)).outside) < searching.tree.depth (slice_index state.top.items r.outside)) (turned q.0) m.back
      (searching.tree.deeper (top_of state q.0.outside) i_in q.2) in
      record {
        tight = subst (λ x. IsTight costs state.size state.top.items state.sums.items x) (sym aim) m.tight;
        here = ap (λ x. top_of state x.inside) aim ∙ m.here;
        flips = inner ∙ sym (ap flip outer);
        lower =
            let low = height_inner state searching.tree.depth (above state.top.items state.entry.items s) inner in
            let high = height_outer state searching.tree.depth s outer in
            let same = ap (λ x. searching.tree.depth (above state.top.items state.entry.items x)) up in
            let at_s = ap searching.tree.depth m.here in
            omega (arith, low, high, same, at_s, deeper);
        pairs = λ o. (q.1 ∙ ap (λ x. Some x) (sym aim), ap (λ x. mate_at state.mate.items x) up ∙ m.back ∙ ap (λ x. Some (turned x)) (sym aim));
      }
]

rise_inner : (costs : Costs) (state : State) (s : ℕ) → (searching : IsSearching costs state) → s < 2 * state.size → label_of state s ≡ Inner → IsRise costs state searching.tree.depth s
rise_inner costs state s searching s_in inner =
    let i = inside_of costs state s searching s_in inner in
    record {
      tight = i.2.reached.entry_tight;
      here = i.2.reached.entry_here;
      flips = i.2.reached.above ∙ sym (ap flip inner);
      lower = omega (arith, height_inner state searching.tree.depth s inner, height_outer state searching.tree.depth (above state.top.items state.entry.items s) i.2.reached.above);
      pairs = λ outer. absurd (outer_inner (sym outer ∙ inner));
    }

pub rise_of : (costs : Costs) (state : State) (s : ℕ) → (searching : IsSearching costs state) → AreAimed (2 * state.size) state.mate.items state.label.items state.entry.items → s < 2 * state.size →
    label_of state s ≢ Free → s ≢ top_of state state.root → IsRise costs state searching.tree.depth s
rise_of costs state s searching aimed s_in labelled other = label_cases (label_of state s) (IsRise costs state searching.tree.depth s)
    (λ free. absurd (labelled free))
    (λ outer. rise_outer costs state s searching aimed s_in outer other)
    (λ inner. rise_inner costs state s searching s_in inner)

abbrev pub is_labelled : Label → Bool
is_labelled Free = false
is_labelled Outer = true
is_labelled Inner = true

labelled_true : (l : Label) → is_labelled l ≡ true → l ≢ Free
labelled_true Free is free = false≢true is
labelled_true Outer is free = free_outer (sym free)
labelled_true Inner is free = free_inner (sym free)

true_labelled : (l : Label) → l ≢ Free → is_labelled l ≡ true
true_labelled Free some = absurd (some refl)
true_labelled Outer some = refl
true_labelled Inner some = refl

labelled_in : (label : List Label) (s : ℕ) → label_at label s ≢ Free → s < length label
labelled_in label s some = elim (cases_lt s (length label)) [
  | inl low ↦ low
  | inr high ↦ absurd (some (get_or_past label s Free high))
]

-- each way up from an outer node comes to the root
pub way_up : (costs : Costs) (state : State) (w : ℕ) → (searching : IsSearching costs state) → AreAimed (2 * state.size) state.mate.items state.label.items state.entry.items →
    label_of state (top_of state w) ≡ Outer → IsWayUp state.top.items state.entry.items (length state.entry.items) (top_of state w) (top_of state state.root)
way_up costs state w searching aimed outer =
    let shape = searching.so_far.shape in
    let inside : ℕ → Bool = λ s. is_labelled (label_of state s) in
    let slot : (s : ℕ) → is_labelled (label_of state s) ≡ true → s < 2 * state.size = λ s is. omega (arith, labelled_in state.label.items s (labelled_true (label_of state s) is), shape.label_len) in
    let rise : (s : ℕ) → is_labelled (label_of state s) ≡ true → s ≢ top_of state state.root → IsRise costs state searching.tree.depth s = λ s is other.
    rise_of costs state s searching aimed (slot s is) (labelled_true (label_of state s) is) other in
    record {
      inside = inside;
      height = height state searching.tree.depth;
      begins = ap is_labelled outer;
      in_slots = λ s is. omega (arith, slot s is, shape.entry_len);
      outside_in = λ s is other. omega (arith, (rise s is other).tight.outside_in, shape.top_len);
      climbs = λ s is other. ap is_labelled (rise s is other).flips ∙ true_labelled (flip (label_of state s)) (flip_some (label_of state s) (labelled_true (label_of state s) is));
      lower = λ s is other. (rise s is other).lower;
    }

-- a way up from an outer node
pub record IsArm (costs : Costs) (state : State) (depth : ℕ → ℕ) (from len : ℕ) (way : List (Option ℕ)) : Type 0 where
  pub marks : (k : ℕ) → k ≤ len → way_at way (climb state.top.items state.entry.items k from) ≡ Some k
  pub only : (s k : ℕ) → way_at way s ≡ Some k → (k ≤ len) × (climb state.top.items state.entry.items k from ≡ s)
  pub sides : (k : ℕ) → k ≤ len → label_of state (climb state.top.items state.entry.items k from) ≡ side k
  pub slots : (k : ℕ) → k ≤ len → climb state.top.items state.entry.items k from < 2 * state.size
  pub rises : (k : ℕ) → k < len → IsRise costs state depth (climb state.top.items state.entry.items k from)

arm_sides : (costs : Costs) (state : State) (u : ℕ) (way : List (Option ℕ)) → (searching : IsSearching costs state) → AreAimed (2 * state.size) state.mate.items state.label.items state.entry.items →
    u < state.size → label_of state (top_of state u) ≡ Outer → (w : IsWay state.top.items state.entry.items (top_of state u) (top_of state state.root) way) → (k : ℕ) → k ≤ w.len →
    (label_of state (climb state.top.items state.entry.items k (top_of state u)) ≡ side k) × (climb state.top.items state.entry.items k (top_of state u) < 2 * state.size)
    × (k < w.len → IsRise costs state searching.tree.depth (climb state.top.items state.entry.items k (top_of state u)))
arm_sides costs state u way searching aimed u_in outer w =
    let not_root : (k : ℕ) → k < w.len → climb state.top.items state.entry.items k (top_of state u) ≢ top_of state state.root = λ k k_in e.
    (let same = some_number k w.len (sym (w.marks k (omega (arith, k_in))) ∙ ap (λ x. way_at way x) (e ∙ sym w.ends) ∙ w.marks w.len (omega arith)) in
    omega (arith, same, k_in)) in
    let rise : (k : ℕ) → label_of state (climb state.top.items state.entry.items k (top_of state u)) ≡ side k → climb state.top.items state.entry.items k (top_of state u) < 2 * state.size →
    k < w.len → IsRise costs state searching.tree.depth (climb state.top.items state.entry.items k (top_of state u)) = λ k is slot k_in.
    rise_of costs state (climb state.top.items state.entry.items k (top_of state u)) searching aimed slot (λ free. side_some k (sym is ∙ free)) (not_root k k_in) in
    go rise
  where
    go : ((k : ℕ) → label_of state (climb state.top.items state.entry.items k (top_of state u)) ≡ side k → climb state.top.items state.entry.items k (top_of state u) < 2 * state.size →
        k < w.len → IsRise costs state searching.tree.depth (climb state.top.items state.entry.items k (top_of state u))) → (k : ℕ) → k ≤ w.len →
        (label_of state (climb state.top.items state.entry.items k (top_of state u)) ≡ side k) × (climb state.top.items state.entry.items k (top_of state u) < 2 * state.size)
        × (k < w.len → IsRise costs state searching.tree.depth (climb state.top.items state.entry.items k (top_of state u)))
    go rise zero below = (outer, searching.so_far.tops.top_in u u_in, rise zero outer (searching.so_far.tops.top_in u u_in))
    go rise (suc k) below =
        let r = go rise k (omega arith) in
        let up = r.2 (omega arith) in
        let is : label_of state (climb state.top.items state.entry.items (suc k) (top_of state u)) ≡ side (suc k) = up.flips ∙ ap flip r.0 in
        let slot = searching.so_far.tops.top_in (link_at state.entry.items (climb state.top.items state.entry.items k (top_of state u))).outside up.tight.outside_in in
        (is, slot, rise (suc k) is slot)

pub arm_of : (costs : Costs) (state : State) (u : ℕ) (way : List (Option ℕ)) → (searching : IsSearching costs state) → AreAimed (2 * state.size) state.mate.items state.label.items state.entry.items →
    u < state.size → label_of state (top_of state u) ≡ Outer → (w : IsWay state.top.items state.entry.items (top_of state u) (top_of state state.root) way) →
    IsArm costs state searching.tree.depth (top_of state u) w.len way
arm_of costs state u way searching aimed u_in outer w = record {
  marks = w.marks;
  only = w.only;
  sides = λ k k_in. (arm_sides costs state u way searching aimed u_in outer w k k_in).0;
  slots = λ k k_in. (arm_sides costs state u way searching aimed u_in outer w k k_in).1;
  rises = λ k k_in. (arm_sides costs state u way searching aimed u_in outer w k (omega (arith, k_in))).2 k_in;
}

pub arm_same : (costs : Costs) (state : State) (depth : ℕ → ℕ) (from len : ℕ) (way : List (Option ℕ)) → IsArm costs state depth from len way → (j k : ℕ) → j ≤ len → k ≤ len →
    climb state.top.items state.entry.items j from ≡ climb state.top.items state.entry.items k from → j ≡ k
arm_same costs state depth from len way x j k j_in k_in e = some_number j k (sym (x.marks j j_in) ∙ ap (λ s. way_at way s) e ∙ x.marks k k_in)

pub arm_low : (costs : Costs) (state : State) (depth : ℕ → ℕ) (from len : ℕ) (way : List (Option ℕ)) → IsArm costs state depth from len way → (d k : ℕ) → k + d ≤ len →
    height state depth (climb state.top.items state.entry.items (k + d) from) ≤ height state depth (climb state.top.items state.entry.items k from)
arm_low costs state depth from len way x zero k below =
    let e : k + zero ≡ k = omega arith in
    let same = ap (λ j. height state depth (climb state.top.items state.entry.items j from)) e in
    omega (arith, same)
arm_low costs state depth from len way x (suc d) k below =
    let e : k + suc d ≡ suc (k + d) = omega arith in
    let same = ap (λ j. height state depth (climb state.top.items state.entry.items j from)) e in
    omega (arith, same, arm_low costs state depth from len way x d k (omega arith), (x.rises (k + d) (omega arith)).lower)

-- an outer node is known by the node above it
same_below : (costs : Costs) (state : State) (depth : ℕ → ℕ) (s t : ℕ) → IsRise costs state depth s → IsRise costs state depth t → label_of state s ≡ Outer → label_of state t ≡ Outer →
    above state.top.items state.entry.items s ≡ above state.top.items state.entry.items t → s ≡ t
same_below costs state depth s t at_s at_t s_outer t_outer same =
    let e : turned (link_at state.entry.items s) ≡ turned (link_at state.entry.items t) =
    some_same (turned (link_at state.entry.items s)) (turned (link_at state.entry.items t)) (sym (at_s.pairs s_outer).1 ∙ ap (λ x. mate_at state.mate.items x) same ∙ (at_t.pairs t_outer).1) in
    sym at_s.here ∙ ap (λ x. top_of state x.outside) e ∙ at_t.here

pub record Joined (costs : Costs) (state : State) (u v end a b : ℕ) : Type 0 where
  pub table : IsTable costs
  pub forked : IsForked costs state u v
  pub join : IsJoin state.one_way.items state.other_way.items end a b

-- the first way and the other one, up to the join
pub record Arms (costs : Costs) (state : State) (depth : ℕ → ℕ) (first second end a b : ℕ) : Type 0 where
  pub one_len : ℕ
  pub other_len : ℕ
  pub one : IsArm costs state depth first one_len state.one_way.items
  pub other : IsArm costs state depth second other_len state.other_way.items
  pub a_in : a ≤ one_len
  pub b_in : b ≤ other_len
  pub one_end : climb state.top.items state.entry.items a first ≡ end
  pub other_end : climb state.top.items state.entry.items b second ≡ end
  pub join : IsJoin state.one_way.items state.other_way.items end a b

pub arms_of : (costs : Costs) (state : State) (u v end a b : ℕ) → (x : Joined costs state u v end a b) → Arms costs state x.forked.searching.tree.depth (top_of state u) (top_of state v) end a b
arms_of costs state u v end a b x =
    let f = x.forked in
    let one = arm_of costs state u state.one_way.items f.searching f.aimed f.meet.u_in f.meet.u_outer f.one in
    let other = arm_of costs state v state.other_way.items f.searching f.aimed f.meet.v_in f.meet.v_outer f.other in
    record {
      one_len = f.one.len;
      other_len = f.other.len;
      one = one;
      other = other;
      a_in = (one.only end a x.join.one_at).0;
      b_in = (other.only end b x.join.other_at).0;
      one_end = (one.only end a x.join.one_at).1;
      other_end = (other.only end b x.join.other_at).1;
      join = x.join;
    }

-- the ways have no node in common but the join
pub cross : (costs : Costs) (state : State) (depth : ℕ → ℕ) (first second end a b : ℕ) → Arms costs state depth first second end a b → (j k : ℕ) → j ≤ a → k < b →
    climb state.top.items state.entry.items j first ≡ climb state.top.items state.entry.items k second → ⊥
cross costs state depth first second end a b x j k j_in k_in e =
    let at_one = x.one.marks j (omega (arith, j_in, x.a_in)) in
    let at_other = x.other.marks k (omega (arith, k_in, x.b_in)) in
    let least = x.join.first (climb state.top.items state.entry.items j first) j k at_one (ap (λ s. way_at state.other_way.items s) e ∙ at_other) in
    let is : j ≡ a = omega (arith, least, j_in) in
    let same = some_number k b (sym at_other ∙ ap (λ s. way_at state.other_way.items s) (sym e ∙ ap (λ i. climb state.top.items state.entry.items i first) is ∙ x.one_end) ∙ x.join.other_at) in
    omega (arith, same, k_in)

pub end_outer : (costs : Costs) (state : State) (depth : ℕ → ℕ) (first second end a b : ℕ) → Arms costs state depth first second end a b → label_of state end ≡ Outer
end_outer costs state depth first second end zero b x = ap (λ s. label_of state s) (sym x.one_end) ∙ x.one.sides zero x.a_in
end_outer costs state depth first second end (suc a) zero x = ap (λ s. label_of state s) (sym x.other_end) ∙ x.other.sides zero x.b_in
end_outer costs state depth first second end (suc a) (suc b) x =
    let at_one : label_of state end ≡ flip (side a) = ap (λ s. label_of state s) (sym x.one_end) ∙ x.one.sides (suc a) x.a_in in
    let at_other : label_of state end ≡ flip (side b) = ap (λ s. label_of state s) (sym x.other_end) ∙ x.other.sides (suc b) x.b_in in
    label_cases (side a) (label_of state end ≡ Outer)
    (λ free. absurd (side_some a free))
    (λ outer.
    let b_outer : side b ≡ Outer = flip_inner (side b) (sym at_other ∙ at_one ∙ ap flip outer) in
    let low : a ≤ x.one_len = omega (arith, x.a_in) in
    let low_other : b ≤ x.other_len = omega (arith, x.b_in) in
    let e = same_below costs state depth (climb state.top.items state.entry.items a first) (climb state.top.items state.entry.items b second) (x.one.rises a x.a_in) (x.other.rises b x.b_in)
    (x.one.sides a low ∙ outer) (x.other.sides b low_other ∙ b_outer) (x.one_end ∙ sym x.other_end) in
    absurd (cross costs state depth first second end (suc a) (suc b) x a b (omega arith) (omega arith) e))
    (λ inner. at_one ∙ ap flip inner)

-- the mate of a node of a way below its end is on the way, and not its end
pub arm_mate : (costs : Costs) (state : State) (depth : ℕ → ℕ) (from len a : ℕ) (way : List (Option ℕ)) → IsArm costs state depth from len way → a ≤ len → label_of state (climb state.top.items state.entry.items a from) ≡ Outer →
    (k : ℕ) → k < a → (j : ℕ) × (j ≤ a) × (p : Pair) × (mate_at state.mate.items (climb state.top.items state.entry.items k from) ≡ Some p) ×
    ((top_of state p.outside ≡ climb state.top.items state.entry.items j from) × (climb state.top.items state.entry.items j from ≢ climb state.top.items state.entry.items a from))
arm_mate costs state depth from len a way x a_in outer k k_in = label_cases (side k) _
    (λ free. absurd (side_some k free))
    (λ k_outer. upward k k_in k_outer)
    (λ k_inner. downward k k_in k_inner)
  where
    upward : (k : ℕ) → k < a → side k ≡ Outer → (j : ℕ) × (j ≤ a) × (p : Pair) × (mate_at state.mate.items (climb state.top.items state.entry.items k from) ≡ Some p) ×
        ((top_of state p.outside ≡ climb state.top.items state.entry.items j from) × (climb state.top.items state.entry.items j from ≢ climb state.top.items state.entry.items a from))
    upward k k_in k_outer =
        let r = x.rises k (omega (arith, k_in, a_in)) in
        let at = x.sides k (omega (arith, k_in, a_in)) ∙ k_outer in (
          suc k,
          k_in,
          link_at state.entry.items (climb state.top.items state.entry.items k from),
          (r.pairs at).0,
          (
            refl,
            λ e.
                outer_inner (sym outer ∙ ap (λ s. label_of state s) (sym e) ∙ r.flips ∙ ap flip at),
          ),
        )

    downward : (k : ℕ) → k < a → side k ≡ Inner → (j : ℕ) × (j ≤ a) × (p : Pair) × (mate_at state.mate.items (climb state.top.items state.entry.items k from) ≡ Some p) ×
        ((top_of state p.outside ≡ climb state.top.items state.entry.items j from) × (climb state.top.items state.entry.items j from ≢ climb state.top.items state.entry.items a from))
    downward zero k_in k_inner = absurd (outer_inner k_inner)
    downward (suc k) k_in k_inner =
        let r = x.rises k (omega (arith, k_in, a_in)) in
        let at = x.sides k (omega (arith, k_in, a_in)) ∙ flip_inner (side k) k_inner in (
          k,
          omega (arith, k_in),
          turned (link_at state.entry.items (climb state.top.items state.entry.items k from)),
          (r.pairs at).1,
          (
            r.here,
            λ e.
                (let same = arm_same costs state depth from len way x k a (omega (arith, k_in, a_in)) a_in e in omega (arith, same, k_in)),
          ),
        )

-- the mate of the end is not on the way
pub arm_leaves : (costs : Costs) (state : State) (depth : ℕ → ℕ) (from len a end t : ℕ) (way : List (Option ℕ)) → IsArm costs state depth from len way → a ≤ len → climb state.top.items state.entry.items a from ≡ end →
    IsRise costs state depth end → label_of state end ≡ Outer → above state.top.items state.entry.items end ≡ t → label_of state t ≡ Inner → (k : ℕ) → k ≤ a → climb state.top.items state.entry.items k from ≡ t → ⊥
arm_leaves costs state depth from len a end t way x a_in ends rise outer up inner zero k_in e = outer_inner (sym (x.sides zero (omega arith)) ∙ ap (λ s. label_of state s) e ∙ inner)
arm_leaves costs state depth from len a end t way x a_in ends rise outer up inner (suc k) k_in e =
    let low : k < len = omega (arith, k_in, a_in) in
    let k_side : flip (side k) ≡ Inner = sym (x.sides (suc k) low) ∙ ap (λ s. label_of state s) e ∙ inner in
    let at = x.sides k (omega (arith, low)) ∙ flip_inner (side k) k_side in
    let same = same_below costs state depth (climb state.top.items state.entry.items k from) end (x.rises k low) rise at outer (e ∙ sym up) in
    let is = arm_same costs state depth from len way x k a (omega (arith, low)) a_in (same ∙ sym ends) in
    omega (arith, is, k_in)

within_is : (o : Option ℕ) (most : ℕ) → is_within o most ≡ true → (k : ℕ) × (o ≡ Some k) × (k ≤ most)
within_is None most is = absurd (false≢true is)
within_is (Some k) most is = (k, refl, leb-true k most is)

is_in : (o : Option ℕ) (k most : ℕ) → o ≡ Some k → k ≤ most → is_within o most ≡ true
is_in o k most is below = ap (λ x. is_within x most) is ∙ le-leb k most below

pub on_one : (costs : Costs) (state : State) (depth : ℕ → ℕ) (first second end a b : ℕ) → Arms costs state depth first second end a b → (k : ℕ) → k ≤ a →
    on_cycle state.one_way.items state.other_way.items a b (climb state.top.items state.entry.items k first) ≡ true
on_one costs state depth first second end a b x k k_in =
    or_left (is_within (way_at state.one_way.items (climb state.top.items state.entry.items k first)) a) (is_within (way_at state.other_way.items (climb state.top.items state.entry.items k first)) b)
    (is_in (way_at state.one_way.items (climb state.top.items state.entry.items k first)) k a (x.one.marks k (omega (arith, k_in, x.a_in))) k_in)

pub on_other : (costs : Costs) (state : State) (depth : ℕ → ℕ) (first second end a b : ℕ) → Arms costs state depth first second end a b → (k : ℕ) → k ≤ b →
    on_cycle state.one_way.items state.other_way.items a b (climb state.top.items state.entry.items k second) ≡ true
on_other costs state depth first second end a b x k k_in =
    or_right (is_within (way_at state.one_way.items (climb state.top.items state.entry.items k second)) a) (is_within (way_at state.other_way.items (climb state.top.items state.entry.items k second)) b)
    (is_in (way_at state.other_way.items (climb state.top.items state.entry.items k second)) k b (x.other.marks k (omega (arith, k_in, x.b_in))) k_in)

pub on_cases : (costs : Costs) (state : State) (depth : ℕ → ℕ) (first second end a b : ℕ) → Arms costs state depth first second end a b → (s : ℕ) →
    on_cycle state.one_way.items state.other_way.items a b s ≡ true →
    ((k : ℕ) × (k ≤ a) × (climb state.top.items state.entry.items k first ≡ s)) ⊎ ((k : ℕ) × (k ≤ b) × (climb state.top.items state.entry.items k second ≡ s))
on_cases costs state depth first second end a b x s is =
    elim (or_cases (is_within (way_at state.one_way.items s) a) (is_within (way_at state.other_way.items s) b) is) [
      | inl at ↦ (let w = within_is (way_at state.one_way.items s) a at in inl (w.0, w.2, (x.one.only s w.0 w.1).1))
      | inr at ↦ (let w = within_is (way_at state.other_way.items s) b at in inr (w.0, w.2, (x.other.only s w.0 w.1).1))
    ]

pub fork_of : (costs : Costs) (state : State) (depth : ℕ → ℕ) (first second end a b slots : ℕ) → Arms costs state depth first second end a b → slots ≡ 2 * state.size → length state.top.items ≡ state.size →
    IsFork state.top.items state.entry.items slots first second a b
fork_of costs state depth first second end a b slots x size long = record {
  one = record {
    in_slots = λ k k_in. omega (arith, x.one.slots k (omega (arith, k_in, x.a_in)), size);
    outside_in = λ k k_in. omega (arith, (x.one.rises k (omega (arith, k_in, x.a_in))).tight.outside_in, long);
    apart = λ j k less k_in e. (let same = arm_same costs state depth first x.one_len state.one_way.items x.one j k (omega (arith, less, k_in, x.a_in)) (omega (arith, k_in, x.a_in)) e in omega (arith, same, less));
  };
  other = record {
    in_slots = λ k k_in. omega (arith, x.other.slots k (omega (arith, k_in, x.b_in)), size);
    outside_in = λ k k_in. omega (arith, (x.other.rises k (omega (arith, k_in, x.b_in))).tight.outside_in, long);
    apart = λ j k less k_in e. (let same = arm_same costs state depth second x.other_len state.other_way.items x.other j k (omega (arith, less, k_in, x.b_in)) (omega (arith, k_in, x.b_in)) e in omega (arith, same, less));
  };
  cross = cross costs state depth first second end a b x;
}
