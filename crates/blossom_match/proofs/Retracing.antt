-- The ways up are marked: all that a search needs stays. Then one node is made of the cycle.
use Rattle.std.proofs.Common.{◌≡◌, ◌≢◌, ℕ, ◌+◌, ◌*◌, ◌<◌, ◌≤◌, Bool, true, false, ◌||◌, cond, ltb, List, Option, Some, None, is_some, IfSome, IsSomeAnd, length, slice_index, refl, sym, subst, ap, ◌∙◌, arith, inl, inr}
use Rattle.std.proofs.lemmas.Bool.{cases_lt, cases_Bool, false≢true, false_from_ne_true, or_right}
use Rattle.std.proofs.lemmas.List.{get_or-set_same, get_or-set_other, get_or_past}
use Rattle.std.proofs.Math.ListN.{length-set}
use Rattle.blossom_match.specs.declared.costs.Costs.{Costs}
use Rattle.blossom_match.specs.declared.state.State.{State}
use Rattle.blossom_match.specs.declared.state.Pair.{Pair}
use Rattle.blossom_match.specs.declared.state.Label.{Label}
use Rattle.blossom_match.specs.declared.state.Label.TheVariants.{Free, Outer, Inner}
use Rattle.blossom_match.specs.declared.ways.Join.{Join}
use Rattle.blossom_match.specs.Views.{holds, label_at, mate_at, link_at, child_at, is_used, to_do}
use Rattle.blossom_match.specs.Turns.{IsMeet, top_of, label_of}
use Rattle.blossom_match.specs.Ways.{AreAimed, IsClosed, IsForked, IsJoin, IsSameTree, IsWay, climb, on_cycle, way_at}
use Rattle.blossom_match.specs.Growth.{IsGrowth}
use Rattle.blossom_match.specs.Rings.{IsSlot, IsRelinked, IsGathered, IsFounded}
use Rattle.blossom_match.specs.Between.{IsBetween, IsSearching, IsReached, IsTree, KeepsRoot}
use Rattle.blossom_match.proofs.Moving.{if_some_map, is_some_map}
use Rattle.blossom_match.proofs.Turning.{keeps_same, root_kept}
use Rattle.blossom_match.proofs.Limits.{top_used}
use Rattle.blossom_match.proofs.Forking.{Joined, arms_of, arm_same, on_one, on_other}
use Rattle.blossom_match.proofs.Ringing.{ring_of}
use Rattle.blossom_match.proofs.Shrinking.{Shrunk}

same_between : (costs : Costs) (before now : State) → IsSameTree before now → IsBetween costs before → IsBetween costs now
same_between costs before now m b = record {
  shape = record {
    size_is = m.size ∙ b.shape.size_is;
    held_len = rw (m.held, m.size) b.shape.held_len;
    halves_len = rw (m.halves, m.size) b.shape.halves_len;
    top_len = rw (m.top, m.size) b.shape.top_len;
    sums_len = rw (m.sums, m.size) b.shape.sums_len;
    child_len = rw (m.child, m.size) b.shape.child_len;
    next_len = rw (m.next, m.size) b.shape.next_len;
    link_len = rw (m.link, m.size) b.shape.link_len;
    mate_len = rw (m.mate, m.size) b.shape.mate_len;
    label_len = rw (m.label, m.size) b.shape.label_len;
    entry_len = m.entry_len ∙ rw m.size b.shape.entry_len;
    one_way_len = m.one_way_len ∙ rw m.size b.shape.one_way_len;
    other_way_len = m.other_way_len ∙ rw m.size b.shape.other_way_len;
    base_len = rw (m.base, m.size) b.shape.base_len;
  };
  sets = rw (m.size, m.held, m.halves, m.child) b.sets;
  tops = rw (m.size, m.held, m.top) b.tops;
  weights = rw (m.size, m.held, m.halves, m.top, m.sums) b.weights;
  cycles = rw (m.size, m.held, m.halves, m.child, m.next, m.link) b.cycles;
  matched = rw (m.size, m.top, m.sums, m.mate) b.matched;
  based = rw (m.size, m.held, m.child, m.base) b.based;
}

same_tree : (costs : Costs) (n : ℕ) (top sums : List ℕ) (mate : List (Option Pair)) (label : List Label) (entry entry' : List Pair) (root : ℕ) →
    ((s : ℕ) → s < 2 * n → label_at label s ≡ Inner → link_at entry' s ≡ link_at entry s) → IsTree costs n top sums mate label entry root → IsTree costs n top sums mate label entry' root
same_tree costs n top sums mate label entry entry' root same tree = record {
  root_in = tree.root_in;
  root_outer = tree.root_outer;
  root_open = tree.root_open;
  outermost = tree.outermost;
  outer = tree.outer;
  inner = λ s s_in inner. is_some_map (mate_at mate s) (IsReached costs n top sums label (link_at entry s) s) (IsReached costs n top sums label (link_at entry' s) s)
      (λ p p_is r. subst (λ e. IsReached costs n top sums label e s p) (sym (same s s_in inner)) r) (tree.inner s s_in inner);
  parity = tree.parity;
  depth = tree.depth;
  deeper = λ s s_in inner. if_some_map (mate_at mate s) (λ p. tree.depth (slice_index top (link_at entry s).outside) < tree.depth (slice_index top p.outside))
      (λ p. tree.depth (slice_index top (link_at entry' s).outside) < tree.depth (slice_index top p.outside))
      (λ p p_is less. subst (λ e. tree.depth (slice_index top e.outside) < tree.depth (slice_index top p.outside)) (sym (same s s_in inner)) less) (tree.deeper s s_in inner);
}

pub same_searching : (costs : Costs) (before now : State) → IsSameTree before now → IsSearching costs before → IsSearching costs now
same_searching costs before now m s = record {
  so_far = same_between costs before now m s.so_far;
  tree = rw (m.size, m.top, m.sums, m.mate, m.label, m.root)
      (same_tree costs before.size before.top.items before.sums.items before.mate.items before.label.items before.entry.items now.entry.items before.root m.entry s.tree);
}

pub same_trans : (a b c : State) → IsSameTree a b → IsSameTree b c → IsSameTree a c
same_trans a b c x y = record {
  size = y.size ∙ x.size;
  root = y.root ∙ x.root;
  held = y.held ∙ x.held;
  halves = y.halves ∙ x.halves;
  top = y.top ∙ x.top;
  sums = y.sums ∙ x.sums;
  child = y.child ∙ x.child;
  next = y.next ∙ x.next;
  link = y.link ∙ x.link;
  mate = y.mate ∙ x.mate;
  label = y.label ∙ x.label;
  base = y.base ∙ x.base;
  entry_len = y.entry_len ∙ x.entry_len;
  one_way_len = y.one_way_len ∙ x.one_way_len;
  other_way_len = y.other_way_len ∙ x.other_way_len;
  entry = λ s s_in inner. y.entry s (omega (arith, s_in, x.size)) (ap (λ l. label_at l s) x.label ∙ inner) ∙ x.entry s s_in inner;
}

pub same_to_do : (before now : State) → IsSameTree before now → to_do now ≡ to_do before
unfolding to_do
same_to_do before now m = rw (m.size, m.held, m.top, m.child, m.label) refl

pub same_keeps : (before now : State) → IsSameTree before now → KeepsRoot before now
same_keeps before now m = root_kept before now (keeps_same before now m.size m.mate m.top) m.top m.root

pub same_meet : (costs : Costs) (before now : State) (u v : ℕ) → IsSameTree before now → IsMeet costs before 0 u v → IsMeet costs now 0 u v
same_meet costs before now u v m is = record {
  u_in = rw m.size is.u_in;
  v_in = rw m.size is.v_in;
  apart = rw m.top is.apart;
  u_outer = rw (m.label, m.top) is.u_outer;
  v_outer = rw (m.label, m.top) is.v_outer;
  full = rw m.sums is.full;
}

pub same_aimed : (before now : State) → IsSameTree before now → now.entry.items ≡ before.entry.items → AreAimed (2 * before.size) before.mate.items before.label.items before.entry.items →
    AreAimed (2 * now.size) now.mate.items now.label.items now.entry.items
same_aimed before now m entry aimed = rw (m.size, m.mate, m.label, entry) aimed

pub same_way : (before now : State) (u : ℕ) (way : List (Option ℕ)) → IsSameTree before now → now.entry.items ≡ before.entry.items →
    IsWay before.top.items before.entry.items (top_of before u) (top_of before before.root) way → IsWay now.top.items now.entry.items (top_of now u) (top_of now now.root) way
same_way before now u way m entry w = rw (m.top, entry, m.root) w

none_of : (n s : ℕ) (o : Option ℕ) → ((ltb s n || is_some o) ≡ true → ⊥) → o ≡ None
none_of n s None never = refl
none_of n s (Some c) never = absurd (never (or_right (ltb s n) true refl))

-- the slot with the number of the base of an outermost node is free
unclaimed : (costs : Costs) (state : State) (s w : ℕ) → IsBetween costs state → w < state.size → top_of state w ≡ s → s < 2 * state.size → is_used state.size state.child.items s ≡ true →
    is_used state.size state.child.items (state.size + slice_index state.base.items s) ≡ true → ⊥
unclaimed costs state s w b w_in is s_in s_used used =
    let n = state.size in
    let held = state.held.items in
    let c = b.based.claimed s s_in s_used used in
    let slot_in : state.size + slice_index state.base.items s < 2 * state.size = omega (arith, b.based.base_in s s_in s_used) in
    let own : (v : ℕ) → v < n → top_of state v ≡ s → holds n held s v ≡ true = λ v v_in at. subst (λ y. holds n held y v ≡ true) at (b.tops.own v v_in) in
    let held_w = c.1 w w_in (own w w_in is) in
    b.sets.distinct s (state.size + slice_index state.base.items s) s_in slot_in s_used used c.0 (λ v v_in. elim (cases_Bool (holds n held s v)) [
      | inl here ↦ here ∙ sym (c.1 v v_in here)
      | inr off ↦ off ∙ sym (false_from_ne_true (holds n held (state.size + slice_index state.base.items s) v) (λ there.
          false≢true (sym off ∙ own v v_in (b.tops.inside (state.size + slice_index state.base.items s) v w slot_in v_in w_in there held_w ∙ is))))
    ])

-- the slot of a node of the cycle that is not its end
pub slot_of : (costs : Costs) (state : State) (on : ℕ → Bool) (end part w : ℕ) → IsBetween costs state → w < state.size → top_of state w ≡ part → on part ≡ true → part ≢ end →
    IsSlot state on end (state.size + slice_index state.base.items part)
slot_of costs state on end part w b w_in is at other =
    let part_in : part < 2 * state.size = subst (λ y. y < 2 * state.size) is (b.tops.top_in w w_in) in
    let used = subst (λ y. is_used state.size state.child.items y ≡ true) is (top_used costs state w b w_in) in
    record {
      larger = omega arith;
      in_slots = omega (arith, b.based.base_in part part_in used);
      free = none_of state.size (state.size + slice_index state.base.items part) (child_at state.child.items (state.size + slice_index state.base.items part)) (unclaimed costs state part w b w_in is part_in used);
      part = part;
      part_on = at;
      part_other = other;
      named = refl;
    }

-- the foot of a way is on the cycle, and is its end only where the way has no step
pub one_slot : (costs : Costs) (state : State) (u v end a b : ℕ) → Joined costs state u v end a b → 1 ≤ a →
    IsSlot state (on_cycle state.one_way.items state.other_way.items a b) end (state.size + slice_index state.base.items (top_of state u))
one_slot costs state u v end a b x some =
    let depth = x.forked.searching.tree.depth in
    let arms = arms_of costs state u v end a b x in
    slot_of costs state (on_cycle state.one_way.items state.other_way.items a b) end (top_of state u) u x.forked.searching.so_far x.forked.meet.u_in refl
    (on_one costs state depth (top_of state u) (top_of state v) end a b arms 0 (omega arith))
    (λ e. (let same = arm_same costs state depth (top_of state u) arms.one_len state.one_way.items arms.one 0 a (omega arith) arms.a_in (e ∙ sym arms.one_end) in omega (arith, same, some)))

pub other_slot : (costs : Costs) (state : State) (u v end a b : ℕ) → Joined costs state u v end a b → a ≡ 0 →
    IsSlot state (on_cycle state.one_way.items state.other_way.items a b) end (state.size + slice_index state.base.items (top_of state v))
other_slot costs state u v end a b x none =
    let depth = x.forked.searching.tree.depth in
    let arms = arms_of costs state u v end a b x in
    slot_of costs state (on_cycle state.one_way.items state.other_way.items a b) end (top_of state v) v x.forked.searching.so_far x.forked.meet.v_in refl
    (on_other costs state depth (top_of state u) (top_of state v) end a b arms 0 (omega arith))
    (λ e. x.forked.meet.apart (ap (λ i. climb state.top.items state.entry.items i (top_of state u)) (sym none) ∙ arms.one_end ∙ sym e))

-- a member whose node gives the slot its number
pub record IsFoot (state : State) (on : ℕ → Bool) (end w : ℕ) : Type 0 where
  pub member_in : w < state.size
  pub node_in : top_of state w < 2 * state.size
  pub slot : IsSlot state on end (state.size + slice_index state.base.items (top_of state w))

pub foot_of : (costs : Costs) (state : State) (u v end a b w : ℕ) → Joined costs state u v end a b → (1 ≤ a → w ≡ u) → (a ≡ 0 → w ≡ v) →
    IsFoot state (on_cycle state.one_way.items state.other_way.items a b) end w
foot_of costs state u v end a b w x one other = elim (cases_lt 0 a) [
  | inl some ↦ subst (λ y. IsFoot state (on_cycle state.one_way.items state.other_way.items a b) end y) (sym (one some)) (record {
    member_in = x.forked.meet.u_in;
    node_in = x.forked.searching.so_far.tops.top_in u x.forked.meet.u_in;
    slot = one_slot costs state u v end a b x some;
  })
  | inr few ↦
      let none : a ≡ 0 = omega (arith, few) in
      subst (λ y. IsFoot state (on_cycle state.one_way.items state.other_way.items a b) end y) (sym (other none)) (record {
        member_in = x.forked.meet.v_in;
        node_in = x.forked.searching.so_far.tops.top_in v x.forked.meet.v_in;
        slot = other_slot costs state u v end a b x none;
      })
]

-- the root is on both ways
pub ways_meet : (costs : Costs) (state : State) (u v : ℕ) → IsForked costs state u v → (j k : ℕ) × (way_at state.one_way.items (top_of state state.root) ≡ Some j) × (way_at state.other_way.items (top_of state state.root) ≡ Some k)
ways_meet costs state u v f = (
  f.one.len,
  f.other.len,
  ap (λ s. way_at state.one_way.items s) (sym f.one.ends) ∙ f.one.marks f.one.len (omega arith),
  ap (λ s. way_at state.other_way.items s) (sym f.other.ends) ∙ f.other.marks f.other.len (omega arith),
)

pub no_join : (o : Option Join) (j : ℕ) → o ≡ None → IsSomeAnd o (λ t. t.one ≤ j) → ⊥
no_join o j none some = subst (λ x. IsSomeAnd x (λ t. t.one ≤ j)) none some

pub join_found : (one other : List (Option ℕ)) (o : Option Join) (t : Join) → o ≡ Some t → IfSome o (λ t. (way_at one t.node ≡ Some t.one) × (way_at other t.node ≡ Some t.other)) →
    ((s j k : ℕ) → way_at one s ≡ Some j → way_at other s ≡ Some k → IsSomeAnd o (λ t. t.one ≤ j)) → IsJoin one other t.node t.one t.other
join_found one other o t is at first =
    let here : (way_at one t.node ≡ Some t.one) × (way_at other t.node ≡ Some t.other) = subst (λ x. IfSome x (λ t. (way_at one t.node ≡ Some t.one) × (way_at other t.node ≡ Some t.other))) is at in
    record {
      one_at = here.0;
      other_at = here.1;
      first = λ s j k p q. subst (λ x. IsSomeAnd x (λ t. t.one ≤ j)) is (first s j k p q);
    }

free_either : (b : Bool) → Free ≡ cond b Free Free
free_either true = refl
free_either false = refl

-- linked, gathered and founded, the cycle is one node
pub shrunk_by : (costs : Costs) (s1 s2 s3 s4 : State) (u v end a b whole : ℕ) → (x : Joined costs s1 u v end a b) → IsSlot s1 (on_cycle s1.one_way.items s1.other_way.items a b) end whole →
    IsClosed s1.top.items s1.entry.items u v (top_of s1 u) (top_of s1 v) a b s1.next.items s2.next.items s1.link.items s2.link.items → IsRelinked s1 s2 →
    IsGathered s2 s3 (on_cycle s2.one_way.items s2.other_way.items a b) whole → IsFounded s3 s4 whole end →
    Shrunk costs s1 s4 (on_cycle s1.one_way.items s1.other_way.items a b) whole end
shrunk_by costs s1 s2 s3 s4 u v end a b whole x slot closed r g f =
    let on : ℕ → Bool = on_cycle s1.one_way.items s1.other_way.items a b in
    let depth = x.forked.searching.tree.depth in
    let arms = arms_of costs s1 u v end a b x in
    let shape = x.forked.searching.so_far.shape in
    let off_one : (s : ℕ) → on_cycle s1.one_way.items s1.other_way.items a b s ≡ false → (k : ℕ) → k ≤ a → s ≢ climb s1.top.items s1.entry.items k (top_of s1 u) = λ s off k k_in e.
    false≢true (sym off ∙ ap (λ y. on_cycle s1.one_way.items s1.other_way.items a b y) e ∙ on_one costs s1 depth (top_of s1 u) (top_of s1 v) end a b arms k k_in) in
    let off_other : (s : ℕ) → on_cycle s1.one_way.items s1.other_way.items a b s ≡ false → (k : ℕ) → k < b → s ≢ climb s1.top.items s1.entry.items k (top_of s1 v) = λ s off k k_in e.
    false≢true (sym off ∙ ap (λ y. on_cycle s1.one_way.items s1.other_way.items a b y) e ∙ on_other costs s1 depth (top_of s1 u) (top_of s1 v) end a b arms k (omega (arith, k_in))) in
    let same_on : (s : ℕ) → on_cycle s2.one_way.items s2.other_way.items a b s ≡ on_cycle s1.one_way.items s1.other_way.items a b s = λ s. rw (r.one_way, r.other_way) refl in
    let next_is : s4.next.items ≡ s2.next.items = f.next ∙ g.next in
    let link_is : s4.link.items ≡ s2.link.items = f.link ∙ g.link in
    let slots : length s2.label.items ≡ 2 * s1.size = ap length r.label ∙ shape.label_len in
    let past : (s : ℕ) → 2 * s1.size ≤ s → label_of s1 s ≡ Free = λ s high. get_or_past s1.label.items s Free (omega (arith, high, shape.label_len)) in
    let long : length s4.label.items ≡ 2 * s1.size = ap length f.label ∙ length-set s3.label.items whole Outer ∙ g.label_len ∙ slots in
    let ring = ring_of costs s1 u v end a b s1.next.items s2.next.items s1.link.items s2.link.items x closed in
    record {
      searching = x.forked.searching;
      ring = rw (next_is, link_is) ring;
      slot = slot;
      is = record {
        size = f.size ∙ g.size ∙ r.size;
        root = f.root ∙ g.root ∙ r.root;
        halves = f.halves ∙ g.halves ∙ r.halves;
        sums = f.sums ∙ g.sums ∙ r.sums;
        entry = f.entry ∙ g.entry ∙ r.entry;
        mate = f.mate ∙ rw (g.mate, r.mate) refl;
        child = f.child ∙ rw (g.child, r.child) refl;
        base = f.base ∙ rw (g.base, r.base) refl;
        held_len = ap length f.held ∙ g.held_len ∙ ap length r.held;
        top_len = ap length f.top ∙ g.top_len ∙ ap length r.top;
        label_len = long ∙ sym shape.label_len;
        next_len = ap length next_is ∙ r.next_len;
        link_len = ap length link_is ∙ r.link_len;
        one_way_len = ap length (f.one_way ∙ g.one_way ∙ r.one_way);
        other_way_len = ap length (f.other_way ∙ g.other_way ∙ r.other_way);
        top = λ v v_in.
            let was : top_of s2 v ≡ top_of s1 v = ap (λ l. slice_index l v) r.top in
            ap (λ l. slice_index l v) f.top ∙ g.top v (omega (arith, v_in, r.size))
            ∙ ap (λ y. cond (on_cycle s2.one_way.items s2.other_way.items a b y) whole y) was
            ∙ ap (λ c. cond c whole (top_of s1 v)) (same_on (top_of s1 v));
        rows = λ s v v_in other.
            ap (λ l. holds s1.size l s v) f.held
            ∙ ap (λ n. holds n s3.held.items s v) (sym r.size) ∙ g.rows s v (omega (arith, v_in, r.size)) other
            ∙ ap (λ n. holds n s2.held.items s v) r.size ∙ ap (λ l. holds s1.size l s v) r.held;
        row = λ v v_in.
            ap (λ l. holds s1.size l whole v) f.held
            ∙ ap (λ n. holds n s3.held.items whole v) (sym r.size) ∙ g.row v (omega (arith, v_in, r.size))
            ∙ ap (λ y. on_cycle s2.one_way.items s2.other_way.items a b y) (ap (λ l. slice_index l v) r.top) ∙ same_on (top_of s1 v);
        labels = λ s other. elim (cases_lt s (2 * s1.size)) [
          | inl low ↦
              ap (λ l. label_at l s) f.label ∙ get_or-set_other s3.label.items whole s Outer Free other
              ∙ g.labels s (omega (arith, low, slots)) ∙ ap (λ l. cond (on_cycle s2.one_way.items s2.other_way.items a b s) Free (label_at l s)) r.label
              ∙ ap (λ c. cond c Free (label_of s1 s)) (same_on s)
          | inr high ↦
              get_or_past s4.label.items s Free (omega (arith, high, long)) ∙ free_either (on_cycle s1.one_way.items s1.other_way.items a b s)
              ∙ ap (λ l. cond (on_cycle s1.one_way.items s1.other_way.items a b s) Free l) (sym (past s high))
        ];
        label = ap (λ l. label_at l whole) f.label ∙ get_or-set_same s3.label.items whole Outer Free (omega (arith, slot.in_slots, slots, g.label_len));
        next_off = λ s off. ap (λ l. slice_index l s) next_is ∙ closed.next_off s (off_one s off) (off_other s off);
        link_off = λ s off. ap (λ l. link_at l s) link_is ∙ closed.link_off s (off_one s off) (off_other s off);
      };
    }

-- what a shrink owes, from the state before the ways were marked
pub less_since : (a b c : State) → IsSameTree a b → to_do c < to_do b → to_do c < to_do a
less_since a b c m less = omega (arith, less, same_to_do a b m)

pub same_growth : (a b c : State) → IsSameTree a b → IsGrowth b c → IsGrowth a c
same_growth a b c m g = record {
  size = g.size ∙ m.size;
  sums = g.sums ∙ m.sums;
  outer = λ v v_in outer. g.outer v (omega (arith, v_in, m.size)) (rw (m.label, m.top) outer);
  together = λ u v u_in v_in outer same. g.together u v (omega (arith, u_in, m.size)) (omega (arith, v_in, m.size)) (rw (m.label, m.top) outer) (rw m.top same);
}
