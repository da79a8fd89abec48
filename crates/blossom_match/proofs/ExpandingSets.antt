-- The sets, the outermost nodes and the weights once a node of weight 0 is put away.
use Rattle.std.proofs.Common.{◌≡◌, ◌≢◌, ℕ, ◌+◌, ◌*◌, ◌%◌, ◌<◌, ◌≤◌, Bool, true, false, ◌||◌, cond, ltb, List, Option, Some, None, is_some, IfSome, IsSomeAnd, slice_index, refl, sym, subst, ap, ◌∙◌, arith, inl, inr}
use Rattle.std.proofs.lemmas.Bool.{cases_eq, cases_lt, false≢true, true_from_ne_false}
use Rattle.blossom_match.specs.declared.costs.Costs.{Costs}
use Rattle.blossom_match.specs.declared.state.Pair.{Pair}
use Rattle.blossom_match.specs.Matching.{members, parts, AreLaminar}
use Rattle.blossom_match.specs.Table.{cost}
use Rattle.blossom_match.specs.Views.{holds, held_sum, between, mate_at, child_at, is_used}
use Rattle.blossom_match.specs.Between.{IsCycle, AreSets, AreTops, AreWeights, AreCycles, AreMatched, AreBased, IsMatched, after}
use Rattle.blossom_match.specs.Unfolding.{IsPaired}
use Rattle.blossom_match.proofs.Totals.{total-ext}
use Rattle.blossom_match.proofs.Raising.{between_apart}
use Rattle.blossom_match.proofs.Keeping.{cycle_moved, child_inside}
use Rattle.blossom_match.proofs.Moving.{if_some_map}
use Rattle.blossom_match.proofs.RowsNested.{IsNest, in_child, child_fewer, some_slot}
use Rattle.blossom_match.proofs.UnfoldingTops.{IsOpenedTop, where_now, not_child, opened_parts, matched_child, matched_elsewhere}
use Rattle.blossom_match.proofs.UnfoldingSets.{in_by_top, not_topmost}

-- the row of a node of weight 0 is empty, and its slot is free
pub record IsGone (n : ℕ) (held held' : List Bool) (halves : List ℕ) (child child' : List (Option ℕ)) (s : ℕ) : Type 0 where
  pub larger : n ≤ s
  pub s_in : s < 2 * n
  pub rows : (t v : ℕ) → v < n → t ≢ s → holds n held' t v ≡ holds n held t v
  pub row : (v : ℕ) → v < n → holds n held' s v ≡ false
  pub weightless : slice_index halves s ≡ 0
  pub none : child_at child' s ≡ None
  pub children : (t : ℕ) → t ≢ s → child_at child' t ≡ child_at child t

pub still_used : (n : ℕ) (held held' : List Bool) (halves : List ℕ) (child child' : List (Option ℕ)) (s : ℕ) → IsGone n held held' halves child child' s → (t : ℕ) → t ≢ s → is_used n child' t ≡ is_used n child t
still_used n held held' halves child child' s g t other = ap (λ o. ltb t n || is_some o) (g.children t other)

pub other_used : (n : ℕ) (held held' : List Bool) (halves : List ℕ) (child child' : List (Option ℕ)) (s : ℕ) → IsGone n held held' halves child child' s → (t : ℕ) → is_used n child' t ≡ true → t ≢ s
other_used n held held' halves child child' s g t used same = some_slot n s (child_at child' s) g.larger (subst (λ x. is_used n child' x ≡ true) same used) g.none

was_used : (n : ℕ) (held held' : List Bool) (halves : List ℕ) (child child' : List (Option ℕ)) (s : ℕ) → IsGone n held held' halves child child' s → (t : ℕ) → is_used n child' t ≡ true → is_used n child t ≡ true
was_used n held held' halves child child' s g t used = sym (still_used n held held' halves child child' s g t (other_used n held held' halves child child' s g t used)) ∙ used

members_same : (n : ℕ) (a b : ℕ → Bool) → ((v : ℕ) → v < n → a v ≡ b v) → members n a ≡ members n b
members_same n a b same = total-ext n (λ v. cond (a v) 1 0) (λ v. cond (b v) 1 0) (λ v v_in. ap (λ x. cond x 1 0) (same v v_in))

laminar_same : (n : ℕ) (a b c d : ℕ → Bool) → ((v : ℕ) → v < n → c v ≡ a v) → ((v : ℕ) → v < n → d v ≡ b v) → AreLaminar n a b → AreLaminar n c d
laminar_same n a b c d ca db (inl within) = inl (λ v v_in on. db v v_in ∙ within v v_in (sym (ca v v_in) ∙ on))
laminar_same n a b c d ca db (inr (inl within)) = inr (inl (λ v v_in on. ca v v_in ∙ within v v_in (sym (db v v_in) ∙ on)))
laminar_same n a b c d ca db (inr (inr apart)) = inr (inr (λ v v_in on. db v v_in ∙ apart v v_in (sym (ca v v_in) ∙ on)))

pub sets_gone : (n : ℕ) (held held' : List Bool) (halves : List ℕ) (child child' : List (Option ℕ)) (s : ℕ) → IsGone n held held' halves child child' s → AreSets n held halves child → AreSets n held' halves child'
sets_gone n held held' halves child child' s g sets = record {
  odd = λ t t_in used.
      let same = members_same n (holds n held' t) (holds n held t) (λ v v_in. g.rows t v v_in (other_used n held held' halves child child' s g t used)) in
      subst (λ x. x % 2 ≡ 1) (sym same) (sets.odd t t_in (was_used n held held' halves child child' s g t used));
  laminar = λ t u t_in u_in other. elim (cases_eq t s) [
    | inl same ↦ inl (λ v v_in on. absurd (false≢true (sym (g.row v v_in) ∙ subst (λ x. holds n held' x v ≡ true) same on)))
    | inr t_not ↦ elim (cases_eq u s) [
      | inl same ↦ inr (inl (λ v v_in on. absurd (false≢true (sym (g.row v v_in) ∙ subst (λ x. holds n held' x v ≡ true) same on))))
      | inr u_not ↦ laminar_same n (holds n held t) (holds n held u) (holds n held' t) (holds n held' u) (λ v v_in. g.rows t v v_in t_not) (λ v v_in. g.rows u v v_in u_not) (sets.laminar t u t_in u_in other)
    ]
  ];
  distinct = λ t u t_in u_in t_used u_used other alike.
      let t_not = other_used n held held' halves child child' s g t t_used in
      let u_not = other_used n held held' halves child child' s g u u_used in
      sets.distinct t u t_in u_in (was_used n held held' halves child child' s g t t_used) (was_used n held held' halves child child' s g u u_used) other
      (λ v v_in. sym (g.rows t v v_in t_not) ∙ alike v v_in ∙ g.rows u v v_in u_not);
  empty = λ t v t_in v_in unused. elim (cases_eq t s) [
    | inl same ↦ ap (λ x. holds n held' x v) same ∙ g.row v v_in
    | inr t_not ↦ g.rows t v v_in t_not ∙ sets.empty t v t_in v_in (sym (still_used n held held' halves child child' s g t t_not) ∙ unused)
  ];
  weightless = λ t t_in unused. elim (cases_eq t s) [
    | inl same ↦ ap (λ x. slice_index halves x) same ∙ g.weightless
    | inr t_not ↦ sets.weightless t t_in (sym (still_used n held held' halves child child' s g t t_not) ∙ unused)
  ];
}

nothing : (b : Bool) (x : ℕ) → x ≡ 0 → cond b x 0 ≡ 0
nothing true x is = is
nothing false x is = refl

pub same_sum : (n : ℕ) (held held' : List Bool) (halves : List ℕ) (child child' : List (Option ℕ)) (s : ℕ) → IsGone n held held' halves child child' s → (v : ℕ) → v < n → held_sum n held' halves v ≡ held_sum n held halves v
same_sum n held held' halves child child' s g v v_in =
    total-ext (2 * n) (λ t. cond (holds n held' t v) (slice_index halves t) 0) (λ t. cond (holds n held t v) (slice_index halves t) 0)
    (λ t t_in. elim (cases_eq t s) [
      | inl same ↦
          let zero_at : slice_index halves t ≡ 0 = ap (λ x. slice_index halves x) same ∙ g.weightless in
          nothing (holds n held' t v) (slice_index halves t) zero_at ∙ sym (nothing (holds n held t v) (slice_index halves t) zero_at)
      | inr other ↦ ap (λ b. cond b (slice_index halves t) 0) (g.rows t v v_in other)
    ])

pub same_between : (n : ℕ) (held held' : List Bool) (halves : List ℕ) (child child' : List (Option ℕ)) (s : ℕ) → IsGone n held held' halves child child' s → (u v : ℕ) → u < n → v < n →
    between n held' halves u v ≡ between n held halves u v
same_between n held held' halves child child' s g u v u_in v_in =
    total-ext (2 * n) (λ t. cond (parts (holds n held' t u) (holds n held' t v)) (slice_index halves t) 0) (λ t. cond (parts (holds n held t u) (holds n held t v)) (slice_index halves t) 0)
    (λ t t_in. elim (cases_eq t s) [
      | inl same ↦
          let zero_at : slice_index halves t ≡ 0 = ap (λ x. slice_index halves x) same ∙ g.weightless in
          nothing (parts (holds n held' t u) (holds n held' t v)) (slice_index halves t) zero_at ∙ sym (nothing (parts (holds n held t u) (holds n held t v)) (slice_index halves t) zero_at)
      | inr other ↦ ap (λ b. cond (parts b (holds n held' t v)) (slice_index halves t) 0) (g.rows t u u_in other) ∙ ap (λ b. cond (parts (holds n held t u) b) (slice_index halves t) 0) (g.rows t v v_in other)
    ])

-- a child is another node than its set
pub child_other : (costs : Costs) (n : ℕ) (held : List Bool) (halves : List ℕ) (child : List (Option ℕ)) (next : List ℕ) (link : List Pair) (s base : ℕ) → AreSets n held halves child →
    (y : IsCycle costs n held halves child next link s base) → (k : ℕ) → k < y.len → after next k base ≢ s
child_other costs n held halves child next link s base sets y k k_in same =
    let alike = ap (λ x. members n (holds n held x)) same in
    omega (arith, child_fewer costs n held halves child next link s base sets y k k_in, alike)

-- no member has the node that is put away as its outermost node
pub top_other : (costs : Costs) (n : ℕ) (held : List Bool) (halves : List ℕ) (child : List (Option ℕ)) (next : List ℕ) (link : List Pair) (s base : ℕ) (p : Pair)
    (top top' : List ℕ) (mate mate' : List (Option Pair)) → (z : IsOpenedTop costs n held halves child next link s base p top top' mate mate') → (v : ℕ) → v < n → slice_index top' v ≢ s
top_other costs n held halves child next link s base p top top' mate mate' z v v_in same = elim (where_now costs n held halves child next link s base p top top' mate mate' z.opening v v_in) [
  | inl i ↦ child_other costs n held halves child next link s base z.sets z.opening.cycle i.place i.place_in (sym i.at ∙ same)
  | inr e ↦ not_topmost costs n held halves child next link s base p top top' mate mate' z v v_in e.not_held (sym e.at ∙ same)
]

pub tops_gone : (costs : Costs) (n : ℕ) (held held' : List Bool) (halves : List ℕ) (child child' : List (Option ℕ)) (next : List ℕ) (link : List Pair) (s base : ℕ) (p : Pair)
    (top top' : List ℕ) (mate mate' : List (Option Pair)) → (z : IsOpenedTop costs n held halves child next link s base p top top' mate mate') → IsNest costs n held halves child next link → AreTops n held top →
    IsGone n held held' halves child child' s → is_used n child s ≡ true → AreTops n held' top'
tops_gone costs n held held' halves child child' next link s base p top top' mate mate' z nest tops g s_used =
    let now = opened_parts costs n held halves child next link s base p top top' mate mate' z in
    record {
      top_in = now.top_in;
      own = λ v v_in. g.rows (slice_index top' v) v v_in (top_other costs n held halves child next link s base p top top' mate mate' z v v_in) ∙ now.own v v_in;
      inside = λ t v w t_in v_in w_in at_v' at_w'. elim (cases_eq t s) [
        | inl same ↦ absurd (false≢true (sym (g.row v v_in) ∙ subst (λ x. holds n held' x v ≡ true) same at_v'))
        | inr other ↦
            let at_v : holds n held t v ≡ true = sym (g.rows t v v_in other) ∙ at_v' in
            let at_w : holds n held t w ≡ true = sym (g.rows t w w_in other) ∙ at_w' in
            let alike = tops.inside t v w t_in v_in w_in at_v at_w in
            elim (where_now costs n held halves child next link s base p top top' mate mate' z.opening v v_in) [
              | inl i ↦
                  let t_used : is_used n child t ≡ true = true_from_ne_false (is_used n child t) (λ unused. false≢true (sym (nest.sets.empty t v t_in v_in unused) ∙ at_v)) in
                  let k = in_child costs n held halves child next link nest s base t z.opening.cycle g.s_in s_used t_in t_used other
                  (λ x x_in at_x. ap (λ y. holds n held y x) (sym (z.topmost v v_in i.held_in) ∙ tops.inside t v x t_in v_in x_in at_v at_x) ∙ tops.own x x_in) in
                  z.opening.own k.0 v k.1 v_in (k.2 v v_in at_v) ∙ sym (z.opening.own k.0 w k.1 w_in (k.2 w w_in at_w))
              | inr e ↦ elim (where_now costs n held halves child next link s base p top top' mate mate' z.opening w w_in) [
                | inl j ↦ absurd (not_topmost costs n held halves child next link s base p top top' mate mate' z v v_in e.not_held (alike ∙ z.topmost w w_in j.held_in))
                | inr f ↦ e.at ∙ alike ∙ sym f.at
              ]
            ]
      ];
    }

-- members of one node now were in one node before
pub coarser : (costs : Costs) (n : ℕ) (held : List Bool) (halves : List ℕ) (child : List (Option ℕ)) (next : List ℕ) (link : List Pair) (s base : ℕ) (p : Pair)
    (top top' : List ℕ) (mate mate' : List (Option Pair)) → (z : IsOpenedTop costs n held halves child next link s base p top top' mate mate') →
    (u v : ℕ) → u < n → v < n → slice_index top' u ≡ slice_index top' v → slice_index top u ≡ slice_index top v
coarser costs n held halves child next link s base p top top' mate mate' z u v u_in v_in same = elim (where_now costs n held halves child next link s base p top top' mate mate' z.opening u u_in) [
  | inl i ↦ z.topmost u u_in i.held_in ∙ sym (z.topmost v v_in (in_by_top costs n held halves child next link s base p top top' mate mate' z u v u_in v_in i.held_in (sym same)))
  | inr e ↦ elim (where_now costs n held halves child next link s base p top top' mate mate' z.opening v v_in) [
    | inl j ↦ absurd (false≢true (sym e.not_held ∙ in_by_top costs n held halves child next link s base p top top' mate mate' z v u v_in u_in j.held_in same))
    | inr f ↦ sym e.at ∙ same ∙ f.at
  ]
]

pub weights_gone : (costs : Costs) (n : ℕ) (held held' : List Bool) (halves : List ℕ) (child child' : List (Option ℕ)) (next : List ℕ) (link : List Pair) (s base : ℕ) (p : Pair)
    (top top' sums : List ℕ) (mate mate' : List (Option Pair)) → (z : IsOpenedTop costs n held halves child next link s base p top top' mate mate') → AreWeights costs n held halves top sums →
    IsGone n held held' halves child child' s → AreWeights costs n held' halves top' sums
weights_gone costs n held held' halves child child' next link s base p top top' sums mate mate' z weights g = record {
  kept = λ v v_in. weights.kept v v_in ∙ sym (same_sum n held held' halves child child' s g v v_in);
  packing = λ u v u_in v_in other. subst (λ x. x ≤ 2 * cost costs u v) (sym (same_between n held held' halves child child' s g u v u_in v_in)) (weights.packing u v u_in v_in other);
  parity = λ u v u_in v_in same. weights.parity u v u_in v_in (coarser costs n held halves child next link s base p top top' mate mate' z u v u_in v_in same);
}

if_none : (o : Option ℕ) (P : ℕ → Type 0) → o ≡ None → IfSome o P
if_none o P is = subst (λ x. IfSome x P) (sym is) tt

if_number : (o : Option ℕ) (P Q : ℕ → Type 0) → ((c : ℕ) → P c → Q c) → IfSome o P → IfSome o Q
if_number None P Q to has = tt
if_number (Some c) P Q to has = to c has

cycle_gone : (costs : Costs) (n : ℕ) (held held' : List Bool) (halves : List ℕ) (child child' : List (Option ℕ)) (next : List ℕ) (link : List Pair) (s w : ℕ) (top : List ℕ) → AreSets n held halves child → AreTops n held top →
    w < n → slice_index top w ≡ s → IsGone n held held' halves child child' s → (t c : ℕ) → t < 2 * n → t ≢ s → IsCycle costs n held halves child next link t c → IsCycle costs n held' halves child' next link t c
cycle_gone costs n held held' halves child child' next link s w top sets tops w_in w_at g t c t_in t_not y =
    let below : (k : ℕ) → k < y.len → after next k c ≢ s = λ k k_in same. child_inside costs n held halves top child next link t c tops sets t_in y k w k_in w_in (w_at ∙ sym same) in
    let within : (k : ℕ) → k ≤ y.len → after next k c ≢ s = λ k k_in. elim (cases_lt k y.len) [
      | inl less ↦ below k less
      | inr more ↦ (let last : k ≡ y.len = omega (arith, more, k_in) in λ same. below 0 (omega (arith, y.several)) (sym y.closes ∙ ap (λ x. after next x c) (sym last) ∙ same))
    ] in
    cycle_moved costs n held held' halves halves child child' next next link link t c y (λ k k_in. refl) (λ k k_in. refl)
    (λ k k_in. still_used n held held' halves child child' s g (after next k c) (below k k_in) ∙ y.used k k_in)
    (λ v v_in. g.rows t v v_in t_not)
    (λ k v k_in v_in. g.rows (after next k c) v v_in (within k k_in))
    (λ u v u_in v_in. same_between n held held' halves child child' s g u v u_in v_in)

pub cycles_gone : (costs : Costs) (n : ℕ) (held held' : List Bool) (halves : List ℕ) (child child' : List (Option ℕ)) (next : List ℕ) (link : List Pair) (s w : ℕ) (top : List ℕ) → AreSets n held halves child → AreTops n held top →
    w < n → slice_index top w ≡ s → IsGone n held held' halves child child' s → AreCycles costs n held halves child next link → AreCycles costs n held' halves child' next link
cycles_gone costs n held held' halves child child' next link s w top sets tops w_in w_at g cycles =
    let low : (t : ℕ) → t < n → t ≢ s = λ t t_in same. omega (arith, t_in, same, g.larger) in
    record {
      single = λ t v t_in v_in on. cycles.single t v t_in v_in (sym (g.rows t v v_in (low t t_in)) ∙ on);
      no_child = λ t t_in. g.children t (low t t_in) ∙ cycles.no_child t t_in;
      larger = λ t t_in. elim (cases_eq t s) [
        | inl same ↦ if_none (child_at child' t) (IsCycle costs n held' halves child' next link t) (ap (λ x. child_at child' x) same ∙ g.none)
        | inr other ↦ subst (λ o. IfSome o (IsCycle costs n held' halves child' next link t)) (sym (g.children t other))
            (if_number (child_at child t) (IsCycle costs n held halves child next link t) (IsCycle costs n held' halves child' next link t)
            (λ c y. cycle_gone costs n held held' halves child child' next link s w top sets tops w_in w_at g t c t_in other y) (cycles.larger t t_in))
      ];
    }

pub based_gone : (n : ℕ) (held held' : List Bool) (halves : List ℕ) (child child' : List (Option ℕ)) (base : List ℕ) (s : ℕ) → IsGone n held held' halves child child' s → AreBased n held child base → AreBased n held' child' base
based_gone n held held' halves child child' base s g b = record {
  base_in = λ t t_in used. b.base_in t t_in (was_used n held held' halves child child' s g t used);
  own = λ t t_in used. g.rows t (slice_index base t) (b.base_in t t_in (was_used n held held' halves child child' s g t used)) (other_used n held held' halves child child' s g t used)
      ∙ b.own t t_in (was_used n held held' halves child child' s g t used);
  claimed = λ t t_in used claimed.
      let old = b.claimed t t_in (was_used n held held' halves child child' s g t used) (was_used n held held' halves child child' s g (n + slice_index base t) claimed) in (
        old.0,
        λ v v_in on. g.rows (n + slice_index base t) v v_in (other_used n held held' halves child child' s g (n + slice_index base t) claimed)
            ∙ old.1 v v_in (sym (g.rows t v v_in (other_used n held held' halves child child' s g t used)) ∙ on),
      );
}

-- a tight pair, by the weights between and by the sums
pub paired_of : (costs : Costs) (n : ℕ) (held : List Bool) (halves top sums : List ℕ) (mate : List (Option Pair)) (s : ℕ) (p : Pair) → AreTops n held top → AreWeights costs n held halves top sums →
    IsMatched costs n top sums mate s p → IsPaired costs n held halves top mate s p
paired_of costs n held halves top sums mate s p tops weights m = record {
  inside_in = m.tight.inside_in;
  outside_in = m.tight.outside_in;
  here = m.here;
  apart = λ e. m.tight.apart (m.here ∙ sym e);
  tight = omega (
    arith,
    between_apart n held top halves tops p.inside p.outside m.tight.inside_in m.tight.outside_in m.tight.apart,
    weights.kept p.inside m.tight.inside_in,
    weights.kept p.outside m.tight.outside_in,
    m.tight.tight,
  );
  back = m.back;
}

pub tight_sums : (costs : Costs) (n : ℕ) (held held' : List Bool) (halves : List ℕ) (child child' : List (Option ℕ)) (s : ℕ) (top' sums : List ℕ) → IsGone n held held' halves child child' s → AreTops n held' top' →
    AreWeights costs n held' halves top' sums → (u v : ℕ) → u < n → v < n → slice_index top' u ≢ slice_index top' v → between n held halves u v ≡ 2 * cost costs u v → slice_index sums u + slice_index sums v ≡ 2 * cost costs u v
tight_sums costs n held held' halves child child' s top' sums g tops weights u v u_in v_in apart tight =
    omega (
      arith,
      between_apart n held' top' halves tops u v u_in v_in apart,
      weights.kept u u_in,
      weights.kept v v_in,
      same_between n held held' halves child child' s g u v u_in v_in,
      tight,
    )

matched_of : (costs : Costs) (n : ℕ) (held held' : List Bool) (halves : List ℕ) (child child' : List (Option ℕ)) (s : ℕ) (top' sums : List ℕ) (mate' : List (Option Pair)) → IsGone n held held' halves child child' s → AreTops n held' top' →
    AreWeights costs n held' halves top' sums → (t : ℕ) (q : Pair) → IsPaired costs n held halves top' mate' t q → IsMatched costs n top' sums mate' t q
matched_of costs n held held' halves child child' s top' sums mate' g tops weights t q m =
    let apart : slice_index top' q.inside ≢ slice_index top' q.outside = λ e. m.apart (sym e ∙ m.here) in
    record {
      tight = record {
        inside_in = m.inside_in;
        outside_in = m.outside_in;
        apart = apart;
        tight = tight_sums costs n held held' halves child child' s top' sums g tops weights q.inside q.outside m.inside_in m.outside_in apart m.tight;
      };
      here = m.here;
      back = m.back;
    }

some_then : (o : Option Pair) (P Q : Pair → Type 0) → ((q : Pair) → P q → Q q) → IsSomeAnd o P → IfSome o Q
some_then None P Q to has = tt
some_then (Some q) P Q to has = to q has

pub matched_gone : (costs : Costs) (n : ℕ) (held held' : List Bool) (halves : List ℕ) (child child' : List (Option ℕ)) (next : List ℕ) (link : List Pair) (s base : ℕ) (p : Pair)
    (top top' sums : List ℕ) (mate mate' : List (Option Pair)) → (z : IsOpenedTop costs n held halves child next link s base p top top' mate mate') → AreTops n held top → AreWeights costs n held halves top sums →
    IsGone n held held' halves child child' s → AreTops n held' top' → AreWeights costs n held' halves top' sums → AreMatched costs n top sums mate → AreMatched costs n top' sums mate'
matched_gone costs n held held' halves child child' next link s base p top top' sums mate mate' z tops weights g tops' weights' matched v v_in =
    elim (where_now costs n held halves child next link s base p top top' mate mate' z.opening v v_in) [
      | inl i ↦ subst (λ t. IfSome (mate_at mate' t) (IsMatched costs n top' sums mate' t)) (sym i.at)
          (some_then (mate_at mate' (after next i.place base)) (IsPaired costs n held halves top' mate' (after next i.place base)) (IsMatched costs n top' sums mate' (after next i.place base))
          (matched_of costs n held held' halves child child' s top' sums mate' g tops' weights' (after next i.place base))
          (matched_child costs n held halves child next link s base p top top' mate mate' z i.place i.place_in))
      | inr e ↦ subst (λ t. IfSome (mate_at mate' t) (IsMatched costs n top' sums mate' t)) (sym e.at)
          (subst (λ o. IfSome o (IsMatched costs n top' sums mate' (slice_index top v)))
          (sym (z.opening.mates_off (slice_index top v) (λ k k_in. not_child costs n held halves child next link s base top z.opening.cycle z.parts v v_in e.not_held k k_in)))
          (if_some_map (mate_at mate (slice_index top v)) (IsMatched costs n top sums mate (slice_index top v)) (IsMatched costs n top' sums mate' (slice_index top v))
          (λ q is m. matched_of costs n held held' halves child child' s top' sums mate' g tops' weights' (slice_index top v) q
          (matched_elsewhere costs n held halves child next link s base p top top' mate mate' z v q v_in e.not_held (paired_of costs n held halves top sums mate (slice_index top v) q tops weights m)))
          (matched v v_in)))
    ]
