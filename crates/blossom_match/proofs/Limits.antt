-- How far the weights can be raised.
use Rattle.std.proofs.Common.{◌≡◌, ◌≢◌, ◌⊎◌, ℕ, zero, suc, ◌+◌, ◌*◌, ◌/◌, ◌<◌, ◌≤◌, Bool, true, not, ◌||◌, cond, eqb, ltb, Option, Some, None, is_some, IfSome, IsSomeAnd, slice_index, refl, sym, subst, ap, ◌∙◌, arith, inl, inr}
use Rattle.std.proofs.lemmas.Bool.{cases_eq, cases_lt, cases_Bool, false≢true, eqb-true, true_from_ne_false, false_from_ne_true, not-false, eq-eqb, le-ltb}
use Rattle.blossom_match.specs.declared.costs.Costs.{Costs}
use Rattle.blossom_match.specs.declared.costs.TheConstants.{MAX_COST}
use Rattle.blossom_match.specs.declared.state.State.{State}
use Rattle.blossom_match.specs.declared.state.Pair.{Pair}
use Rattle.blossom_match.specs.declared.state.Label.TheVariants.{Free, Outer, Inner}
use Rattle.blossom_match.specs.declared.room.Turn.{Turn}
use Rattle.blossom_match.specs.Matching.{members}
use Rattle.blossom_match.specs.Table.{cost, IsAsked}
use Rattle.blossom_match.specs.Views.{holds, mate_at, link_at, child_at, is_used}
use Rattle.blossom_match.specs.Turns.{Happens, IsLawful, IsMeet, IsSpent, top_of, sum_of, label_of}
use Rattle.blossom_match.specs.Rooms.{KeepsPair, KeepsNode, IsNodeTurn, IsNoMore, IsLess}
use Rattle.blossom_match.specs.Between.{IsBetween, IsSearching, IsReached, IsMatched}
use Rattle.blossom_match.proofs.Totals.{total-only}
use Rattle.blossom_match.proofs.Duality.{some_or_none}
use Rattle.blossom_match.proofs.Raising.{between_apart, inner_not_free, outer_not_free}
use Rattle.blossom_match.proofs.Moving.{label_cases, some_not_none}
use Rattle.blossom_match.proofs.Growing.{if_some_at}

sum_less : (r a : Option Turn) (x d : ℕ) → IsNoMore r a → IsSomeAnd a (λ t. x + t.amount ≤ d) → IsSomeAnd r (λ t. x + t.amount ≤ d)
sum_less r None x d less has = absurd has
sum_less None (Some t) x d less has = absurd less
sum_less (Some y) (Some t) x d less has = omega (arith, less, has)

twice_less : (r a : Option Turn) (x d : ℕ) → IsNoMore r a → IsSomeAnd a (λ t. x + 2 * t.amount ≤ d) → IsSomeAnd r (λ t. x + 2 * t.amount ≤ d)
twice_less r None x d less has = absurd has
twice_less None (Some t) x d less has = absurd less
twice_less (Some y) (Some t) x d less has = omega (arith, less, has)

amount_less : (r a : Option Turn) (d : ℕ) → IsNoMore r a → IsSomeAnd a (λ t. t.amount ≤ d) → IsSomeAnd r (λ t. t.amount ≤ d)
amount_less r None d less has = absurd has
amount_less None (Some t) d less has = absurd less
amount_less (Some y) (Some t) d less has = omega (arith, less, has)

pub pair_less : (costs : Costs) (state : State) (r a : Option Turn) (u v : ℕ) → IsNoMore r a → KeepsPair costs state a u v → KeepsPair costs state r u v
pair_less costs state r a u v less k = record {
  meets = λ apart at_u at_v. twice_less r a (sum_of state u + sum_of state v) (2 * cost costs u v) less (k.meets apart at_u at_v);
  reaches = λ at_u at_v. sum_less r a (sum_of state u + sum_of state v) (2 * cost costs u v) less (k.reaches at_u at_v);
}

pub node_less : (state : State) (r a : Option Turn) (s : ℕ) → IsNoMore r a → KeepsNode state a s → KeepsNode state r s
node_less state r a s less k = λ inner. amount_less r a (slice_index state.halves.items s) less (k inner)

pub either_way : (r a b : Option Turn) (P : Turn → Type 0) → (r ≡ a) ⊎ ((r ≡ b) × IsLess b a) → IfSome a P → IfSome b P → IfSome r P
either_way r a b P (inl is) first second = subst (λ o. IfSome o P) (sym is) first
either_way r a b P (inr is) first second = subst (λ o. IfSome o P) (sym is.0) second

-- nothing is to be kept for members of one node, and for one that is not outer
pub alike_pair : (costs : Costs) (state : State) (r : Option Turn) (u v : ℕ) → top_of state u ≡ top_of state v → KeepsPair costs state r u v
alike_pair costs state r u v same = record {
  meets = λ apart at_u at_v. absurd (apart same);
  reaches = λ at_u at_v. absurd (outer_not_free (sym at_u ∙ ap (λ x. label_of state x) same ∙ at_v));
}

pub no_outer : (costs : Costs) (state : State) (r : Option Turn) (u v : ℕ) → label_of state (top_of state u) ≢ Outer → KeepsPair costs state r u v
no_outer costs state r u v other = record { meets = λ apart at_u at_v. absurd (other at_u); reaches = λ at_u at_v. absurd (other at_u) }

-- half the room of two outer nodes
pub meet_at_half : (costs : Costs) (state : State) (room u v : ℕ) → IsSearching costs state → u < state.size → v < state.size → top_of state u ≢ top_of state v →
    label_of state (top_of state u) ≡ Outer → label_of state (top_of state v) ≡ Outer → sum_of state u + sum_of state v + room ≡ 2 * cost costs u v → IsMeet costs state (room / 2) u v
meet_at_half costs state room u v s u_in v_in apart at_u at_v full =
    let even = s.tree.parity u v u_in v_in (λ free. outer_not_free (sym at_u ∙ free)) (λ free. outer_not_free (sym at_v ∙ free)) in
    record {
      u_in = u_in;
      v_in = v_in;
      apart = apart;
      u_outer = at_u;
      v_outer = at_v;
      full = omega (arith, even, full);
    }

-- the sums of two members of different outermost nodes are within twice their cost
pub sums_pack : (costs : Costs) (state : State) (u v : ℕ) → IsBetween costs state → u < state.size → v < state.size → top_of state u ≢ top_of state v →
    sum_of state u + sum_of state v ≤ 2 * cost costs u v
sums_pack costs state u v b u_in v_in apart =
    omega (
      arith,
      b.weights.packing u v u_in v_in (λ e. apart (ap (λ x. top_of state x) e)),
      between_apart state.size state.held.items state.top.items state.halves.items b.tops u v u_in v_in apart,
      b.weights.kept u u_in,
      b.weights.kept v v_in,
    )

pub top_used : (costs : Costs) (state : State) (v : ℕ) → IsBetween costs state → v < state.size → is_used state.size state.child.items (top_of state v) ≡ true
top_used costs state v b v_in =
    true_from_ne_false (is_used state.size state.child.items (top_of state v))
    (λ unused. false≢true (sym (b.sets.empty (top_of state v) v (b.tops.top_in v v_in) v_in unused) ∙ b.tops.own v v_in))

members_all : (n : ℕ) (set : ℕ → Bool) → ((v : ℕ) → v < n → set v ≡ true) → members n set ≡ n
members_all zero set all = refl
members_all (suc n) set all =
    let last : cond (set n) 1 0 ≡ 1 = ap (λ b. cond {A = ℕ} b 1 0) (all n (omega arith)) in
    omega (arith, members_all n set (λ v below. all v (omega arith)), last)

-- there are two outermost nodes
another_top : (costs : Costs) (state : State) (v : ℕ) → IsAsked costs → IsBetween costs state → v < state.size → (w : ℕ) × (w < state.size) × (top_of state w ≢ top_of state v)
another_top costs state v asked b v_in = elim (some_or_none state.size (λ w. not (eqb (top_of state w) (top_of state v)))) [
  | inl some ↦ (some.0, some.1, λ same. absurd (apart_tops (top_of state some.0) (top_of state v) same some.2))
  | inr none ↦
      let all = members_all state.size (holds state.size state.held.items (top_of state v))
      (λ w w_in. subst (λ s. holds state.size state.held.items s w ≡ true) (eqb-true (top_of state w) (top_of state v) (not-false (eqb (top_of state w) (top_of state v)) (none w w_in))) (b.tops.own w w_in)) in
      let odd = b.sets.odd (top_of state v) (b.tops.top_in v v_in) (top_used costs state v b v_in) in
      absurd (omega (arith, odd, all, asked.even, b.shape.size_is))
]
  where
    apart_tops : (x y : ℕ) → x ≡ y → not (eqb x y) ≡ true → ⊥
    apart_tops x y same is = false≢true (sym (ap not (eq-eqb x y same)) ∙ is)

pub some_value : (o : Option Pair) (P : Pair → Type 0) → IsSomeAnd o P → (p : Pair) × (o ≡ Some p) × P p
some_value None P has = absurd has
some_value (Some p) P has = (p, refl, has)

-- the mate of an inner node, and how the node was reached
pub record IsInside (costs : Costs) (state : State) (s : ℕ) (p : Pair) : Type 0 where
  pub reached : IsReached costs state.size state.top.items state.sums.items state.label.items (link_at state.entry.items s) s p
  pub matched : IsMatched costs state.size state.top.items state.sums.items state.mate.items s p

pub inside_of : (costs : Costs) (state : State) (s : ℕ) → IsSearching costs state → s < 2 * state.size → label_of state s ≡ Inner → (p : Pair) × (mate_at state.mate.items s ≡ Some p) × IsInside costs state s p
inside_of costs state s searching s_in inner =
    let r = some_value (mate_at state.mate.items s) (IsReached costs state.size state.top.items state.sums.items state.label.items (link_at state.entry.items s) s) (searching.tree.inner s s_in inner) in
    let e = link_at state.entry.items s in
    let at : IfSome (mate_at state.mate.items s) (IsMatched costs state.size state.top.items state.sums.items state.mate.items s) =
    subst (λ x. IfSome (mate_at state.mate.items x) (IsMatched costs state.size state.top.items state.sums.items state.mate.items x)) r.2.entry_here
    (searching.so_far.matched (link_at state.entry.items s).inside r.2.entry_tight.inside_in) in (
      r.0,
      r.1,
      record {
        reached = r.2;
        matched = if_some_at (mate_at state.mate.items s) (IsMatched costs state.size state.top.items state.sums.items state.mate.items s) r.0 r.1 at;
      },
    )

from_meet : (costs : Costs) (state : State) (r : Option Turn) (v w : ℕ) → IsAsked costs → top_of state v ≢ top_of state w → label_of state (top_of state v) ≡ Outer → label_of state (top_of state w) ≡ Outer →
    KeepsPair costs state r v w → IsSomeAnd r (λ t. sum_of state v + t.amount ≤ 2 * MAX_COST)
from_meet costs state None v w asked apart at_v at_w k = absurd (k.meets apart at_v at_w)
from_meet costs state (Some t) v w asked apart at_v at_w k = omega (arith, k.meets apart at_v at_w, asked.table.small v w)

from_reach : (costs : Costs) (state : State) (r : Option Turn) (v w : ℕ) → IsAsked costs → label_of state (top_of state v) ≡ Outer → label_of state (top_of state w) ≡ Free →
    KeepsPair costs state r v w → IsSomeAnd r (λ t. sum_of state v + t.amount ≤ 2 * MAX_COST)
from_reach costs state None v w asked at_v at_w k = absurd (k.reaches at_v at_w)
from_reach costs state (Some t) v w asked at_v at_w k = omega (arith, k.reaches at_v at_w, asked.table.small v w)

-- an outer member has a pair that stops the weights
has_pair : (costs : Costs) (state : State) (r : Option Turn) (v : ℕ) → IsAsked costs → IsSearching costs state → v < state.size → label_of state (top_of state v) ≡ Outer →
    ((x y : ℕ) → x < state.size → y < state.size → KeepsPair costs state r x y) → IsSomeAnd r (λ t. sum_of state v + t.amount ≤ 2 * MAX_COST)
has_pair costs state r v asked s v_in outer keeps =
    let w = another_top costs state v asked s.so_far v_in in
    label_cases (label_of state (top_of state w.0)) (IsSomeAnd r (λ t. sum_of state v + t.amount ≤ 2 * MAX_COST))
    (λ free. from_reach costs state r v w.0 asked outer free (keeps v w.0 v_in w.1))
    (λ also. from_meet costs state r v w.0 asked (λ e. w.2 (sym e)) outer also (keeps v w.0 v_in w.1))
    (λ inner.
    let i = inside_of costs state (top_of state w.0) s (s.so_far.tops.top_in w.0 w.1) inner in
    elim (cases_eq (top_of state v) (top_of state (link_at state.entry.items (top_of state w.0)).outside)) [
      | inl same ↦ from_meet costs state r v i.0.outside asked (λ e. i.2.reached.forks (sym same ∙ e)) outer i.2.reached.below (keeps v i.0.outside v_in i.2.matched.tight.outside_in)
      | inr other ↦ from_meet costs state r v (link_at state.entry.items (top_of state w.0)).outside asked other outer i.2.reached.above
          (keeps v (link_at state.entry.items (top_of state w.0)).outside v_in i.2.reached.entry_tight.outside_in)
    ])

pub turn_lawful : (costs : Costs) (state : State) (pairs nodes r : Option Turn) → IsAsked costs → IsSearching costs state →
    ((x y : ℕ) → x < state.size → y < state.size → KeepsPair costs state pairs x y) → ((x : ℕ) → x < 2 * state.size → KeepsNode state nodes x) →
    IsNoMore r pairs → IsNoMore r nodes → IsSomeAnd r (λ t. IsLawful costs state t.amount)
turn_lawful costs state pairs nodes r asked s keeps_pairs keeps_nodes first second =
    lawful_of r (λ x y x_in y_in. pair_less costs state r pairs x y first (keeps_pairs x y x_in y_in)) (λ x x_in. node_less state r nodes x second (keeps_nodes x x_in))
    (λ v v_in outer. has_pair costs state r v asked s v_in outer (λ x y x_in y_in. pair_less costs state r pairs x y first (keeps_pairs x y x_in y_in)))
  where
    lawful_of : (r : Option Turn) → ((x y : ℕ) → x < state.size → y < state.size → KeepsPair costs state r x y) → ((x : ℕ) → x < 2 * state.size → KeepsNode state r x) →
        ((v : ℕ) → v < state.size → label_of state (top_of state v) ≡ Outer → IsSomeAnd r (λ t. sum_of state v + t.amount ≤ 2 * MAX_COST)) → IsSomeAnd r (λ t. IsLawful costs state t.amount)
    lawful_of None p q has = absurd (has state.root s.tree.root_in s.tree.root_outer)
    lawful_of (Some t) p q has = record {
      meets = λ x y x_in y_in apart at_x at_y. (p x y x_in y_in).meets apart at_x at_y;
      reaches = λ x y x_in y_in at_x at_y. (p x y x_in y_in).reaches at_x at_y;
      enough = λ x x_in inner. q x x_in inner;
      fits = has;
    }

-- the sum at a single member that is an outermost node is its weight
lone_sum : (costs : Costs) (state : State) (s : ℕ) → IsBetween costs state → s < state.size → top_of state s ≡ s → sum_of state s ≡ slice_index state.halves.items s
lone_sum costs state s b s_in alone =
    let n = state.size in
    let held = state.held.items in
    let halves = state.halves.items in
    let own : holds n held s s ≡ true = subst (λ x. holds n held x s ≡ true) alone (b.tops.own s s_in) in
    let none : (t : ℕ) → t < 2 * n → t ≢ s → cond (holds n held t s) (slice_index halves t) 0 ≡ 0 = λ t t_in other. elim (cases_Bool (holds n held t s)) [
      | inr off ↦ ap (λ x. cond x (slice_index halves t) 0) off
      | inl on ↦ elim (cases_Bool (is_used n state.child.items t)) [
        | inr unused ↦ absurd (false≢true (sym (b.sets.empty t s t_in s_in unused) ∙ on))
        | inl used ↦ absurd (b.sets.distinct t s t_in (omega (arith, s_in)) used (subst (λ x. is_used n state.child.items x ≡ true) alone (top_used costs state s b s_in)) other
            (λ v v_in. elim (cases_Bool (holds n held t v)) [
              | inl at ↦ at ∙ sym (subst (λ x. holds n held x v ≡ true) (b.tops.inside t v s t_in v_in s_in at on ∙ alone) (b.tops.own v v_in))
              | inr off ↦ off ∙ sym (false_from_ne_true (holds n held s v) (λ at. false≢true (sym off ∙ subst (λ x. holds n held t x ≡ true) (b.cycles.single s v s_in v_in at) on)))
            ]))
      ]
    ] in
    b.weights.kept s s_in
    ∙ total-only (2 * n) (λ t. cond (holds n held t s) (slice_index halves t) 0) s (omega (arith, s_in)) none
    ∙ ap (λ x. cond x (slice_index halves s) 0) own

not_before : (pairs : Option Turn) (t : Turn) (x : ℕ) → IsLess (Some t) pairs → IsSomeAnd pairs (λ y. y.amount ≤ x) → x ≡ t.amount → ⊥
not_before None t x less has is = has
not_before (Some y) t x less has is = omega (arith, less, has, is)

halved : (pairs : Option Turn) (a b x c : ℕ) → IsSomeAnd pairs (λ y. a + b + 2 * y.amount ≤ c) → c ≤ 2 * x + a + b → IsSomeAnd pairs (λ y. y.amount ≤ x)
halved None a b x c has within = has
halved (Some y) a b x c has within = omega (arith, has, within)

-- a node that stops the weights before each pair is no single member
no_single : (costs : Costs) (state : State) (pairs : Option Turn) (t : Turn) (k : IsNodeTurn state t) → IsAsked costs → IsSearching costs state →
    ((x y : ℕ) → x < state.size → y < state.size → KeepsPair costs state pairs x y) → IsLess (Some t) pairs → k.node < state.size → ⊥
no_single costs state pairs t k asked s keeps less low =
    let i = inside_of costs state k.node s k.in_slots k.inner in
    let e = link_at state.entry.items k.node in
    let p = i.0 in
    let b = s.so_far in
    let e_in = i.2.reached.entry_tight.inside_in in
    let p_in = i.2.matched.tight.inside_in in
    let e_is : k.node ≡ (link_at state.entry.items k.node).inside =
    b.cycles.single k.node (link_at state.entry.items k.node).inside low e_in
    (subst (λ x. holds state.size state.held.items x (link_at state.entry.items k.node).inside ≡ true) i.2.reached.entry_here (b.tops.own (link_at state.entry.items k.node).inside e_in)) in
    let p_is : k.node ≡ p.inside =
    b.cycles.single k.node p.inside low p_in (subst (λ x. holds state.size state.held.items x p.inside ≡ true) i.2.matched.here (b.tops.own p.inside p_in)) in
    let alone : top_of state k.node ≡ k.node = ap (λ x. top_of state x) e_is ∙ i.2.reached.entry_here in
    let u_in = i.2.reached.entry_tight.outside_in in
    let w_in = i.2.matched.tight.outside_in in
    let meets = (keeps (link_at state.entry.items k.node).outside p.outside u_in w_in).meets i.2.reached.forks i.2.reached.above i.2.reached.below in
    let up : sum_of state k.node + sum_of state (link_at state.entry.items k.node).outside ≡ 2 * cost costs k.node (link_at state.entry.items k.node).outside =
    subst (λ x. sum_of state x + sum_of state (link_at state.entry.items k.node).outside ≡ 2 * cost costs x (link_at state.entry.items k.node).outside) (sym e_is) i.2.reached.entry_tight.tight in
    let down : sum_of state k.node + sum_of state p.outside ≡ 2 * cost costs k.node p.outside =
    subst (λ x. sum_of state x + sum_of state p.outside ≡ 2 * cost costs x p.outside) (sym p_is) i.2.matched.tight.tight in
    let triangle = asked.metric (link_at state.entry.items k.node).outside k.node p.outside (omega (arith, u_in, b.shape.size_is)) (omega (arith, low, b.shape.size_is)) (omega (arith, w_in, b.shape.size_is)) in
    let same = asked.table.same (link_at state.entry.items k.node).outside k.node (omega (arith, u_in, b.shape.size_is)) (omega (arith, low, b.shape.size_is)) in
    not_before pairs t (sum_of state k.node) less
    (halved pairs (sum_of state (link_at state.entry.items k.node).outside) (sum_of state p.outside) (sum_of state k.node) (2 * cost costs (link_at state.entry.items k.node).outside p.outside) meets
    (omega (arith, up, down, triangle, same)))
    (lone_sum costs state k.node b low alone ∙ k.all)

pub turn_happens : (costs : Costs) (state : State) (pairs nodes r : Option Turn) → IsAsked costs → IsSearching costs state →
    ((x y : ℕ) → x < state.size → y < state.size → KeepsPair costs state pairs x y) →
    (r ≡ pairs) ⊎ ((r ≡ nodes) × IsLess nodes pairs) → IfSome pairs (λ t. Happens costs state t.amount t.event) → IfSome nodes (IsNodeTurn state) →
    IfSome r (λ t. Happens costs state t.amount t.event)
turn_happens costs state pairs nodes r asked s keeps (inl is) first second = subst (λ o. IfSome o (λ t. Happens costs state t.amount t.event)) (sym is) first
turn_happens costs state pairs nodes r asked s keeps (inr is) first second =
    subst (λ o. IfSome o (λ t. Happens costs state t.amount t.event)) (sym is.0) (spent nodes is.1 second)
  where
    spent : (nodes : Option Turn) → IsLess nodes pairs → IfSome nodes (IsNodeTurn state) → IfSome nodes (λ t. Happens costs state t.amount t.event)
    spent None less k = tt
    spent (Some t) less k = subst (λ e. Happens costs state t.amount e) (sym k.event) (record {
      larger = elim (cases_lt k.node state.size) [ inl low ↦ absurd (no_single costs state pairs t k asked s keeps less low) | inr high ↦ high ];
      in_slots = k.in_slots;
      inner = k.inner;
      all = k.all;
    })

pub some_happens : (r : Option Turn) (P Q : Turn → Type 0) → IsSomeAnd r P → IfSome r Q → IsSomeAnd r Q
some_happens None P Q some has = some
some_happens (Some t) P Q some has = has

some_not_zero : (n s : ℕ) (o : Option ℕ) → n ≤ s → (ltb s n || is_some o) ≡ true → o ≡ None → ⊥
some_not_zero n s o high used none = false≢true (sym (ap (λ x. x || is_some o) (le-ltb s n high) ∙ ap (λ x. is_some x) none) ∙ used)

-- a spent node is a set
pub spent_child : (costs : Costs) (state : State) (s : ℕ) → IsSearching costs state → IsSpent state 0 s → child_at state.child.items s ≡ None → ⊥
spent_child costs state s searching spent none =
    let w = searching.tree.outermost s spent.in_slots (λ free. inner_not_free (sym spent.inner ∙ free)) in
    some_not_zero state.size s (child_at state.child.items s) spent.larger
    (subst (λ x. is_used state.size state.child.items x ≡ true) w.2 (top_used costs state w.0 searching.so_far w.1)) none

-- a spent node has a mate
pub spent_mate : (costs : Costs) (state : State) (s : ℕ) → IsSearching costs state → IsSpent state 0 s → mate_at state.mate.items s ≡ None → ⊥
spent_mate costs state s searching spent none =
    let i = inside_of costs state s searching spent.in_slots spent.inner in
    some_not_none i.0 (sym i.1 ∙ none)
