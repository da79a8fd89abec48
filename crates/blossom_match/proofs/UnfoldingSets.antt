-- What leads out of each used node once a set is opened.
use Rattle.std.proofs.Common.{◌≡◌, ◌≢◌, ℕ, ◌*◌, ◌<◌, ◌≤◌, Bool, true, false, List, Option, Some, slice_index, sym, subst, ap, ◌∙◌, arith, inl, inr}
use Rattle.std.proofs.lemmas.Bool.{cases_eq, cases_Bool, false≢true, false_from_ne_true}
use Rattle.blossom_match.specs.declared.costs.Costs.{Costs}
use Rattle.blossom_match.specs.declared.state.Pair.{Pair}
use Rattle.blossom_match.specs.Matching.{members}
use Rattle.blossom_match.specs.Views.{holds, mate_at, is_used}
use Rattle.blossom_match.specs.Between.{after}
use Rattle.blossom_match.specs.Unfolding.{IsAlike, IsLedOut, AreLedOut}
use Rattle.blossom_match.proofs.Augmenting.{some_same}
use Rattle.blossom_match.proofs.RowsNested.{IsNest, in_child, child_fewer}
use Rattle.blossom_match.proofs.UnfoldingTops.{IsOpenedTop, where_now, not_child, pair_out}

-- the pairs of the other children stay inside
child_pair_inside : (costs : Costs) (n : ℕ) (held : List Bool) (halves : List ℕ) (child : List (Option ℕ)) (next : List ℕ) (link : List Pair) (s base : ℕ) (p : Pair)
    (top top' : List ℕ) (mate mate' : List (Option Pair)) → (z : IsOpenedTop costs n held halves child next link s base p top top' mate mate') →
    (k : ℕ) (q : Pair) → 1 ≤ k → k < z.opening.cycle.len → mate_at mate' (after next k base) ≡ Some q → holds n held s q.outside ≡ true
child_pair_inside costs n held halves child next link s base p top top' mate mate' z k q some k_in is =
    let r = z.opening.partner k some k_in in
    let same : r.pair ≡ q = some_same r.pair q (sym r.is ∙ is) in
    ap (λ x. holds n held s x.outside) (sym same) ∙ z.opening.cycle.inner r.other r.pair.outside r.other_in r.outside_in r.there

-- a member of the node of a member of the set is in the set
pub in_by_top : (costs : Costs) (n : ℕ) (held : List Bool) (halves : List ℕ) (child : List (Option ℕ)) (next : List ℕ) (link : List Pair) (s base : ℕ) (p : Pair)
    (top top' : List ℕ) (mate mate' : List (Option Pair)) → (z : IsOpenedTop costs n held halves child next link s base p top top' mate mate') →
    (v w : ℕ) → v < n → w < n → holds n held s v ≡ true → slice_index top' w ≡ slice_index top' v → holds n held s w ≡ true
in_by_top costs n held halves child next link s base p top top' mate mate' z v w v_in w_in on same =
    elim (where_now costs n held halves child next link s base p top top' mate mate' z.opening w w_in) [
      | inl j ↦ j.held_in
      | inr f ↦ elim (where_now costs n held halves child next link s base p top top' mate mate' z.opening v v_in) [
        | inl i ↦ absurd (not_child costs n held halves child next link s base top z.opening.cycle z.parts w w_in f.not_held i.place i.place_in (sym f.at ∙ same ∙ i.at))
        | inr e ↦ absurd (false≢true (sym e.not_held ∙ on))
      ]
    ]

-- the pair of a node elsewhere is the one from before
pub pair_elsewhere : (costs : Costs) (n : ℕ) (held : List Bool) (halves : List ℕ) (child : List (Option ℕ)) (next : List ℕ) (link : List Pair) (s base : ℕ) (p : Pair)
    (top top' : List ℕ) (mate mate' : List (Option Pair)) → (z : IsOpenedTop costs n held halves child next link s base p top top' mate mate') →
    (v : ℕ) → v < n → holds n held s v ≡ false → mate_at mate' (slice_index top' v) ≡ mate_at mate (slice_index top v)
pair_elsewhere costs n held halves child next link s base p top top' mate mate' z v v_in off =
    ap (λ t. mate_at mate' t) (z.opening.off v v_in off)
    ∙ z.opening.mates_off (slice_index top v) (λ k k_in. not_child costs n held halves child next link s base top z.opening.cycle z.parts v v_in off k k_in)

-- a member elsewhere is in a node elsewhere
pub not_topmost : (costs : Costs) (n : ℕ) (held : List Bool) (halves : List ℕ) (child : List (Option ℕ)) (next : List ℕ) (link : List Pair) (s base : ℕ) (p : Pair)
    (top top' : List ℕ) (mate mate' : List (Option Pair)) → (z : IsOpenedTop costs n held halves child next link s base p top top' mate mate') →
    (v : ℕ) → v < n → holds n held s v ≡ false → slice_index top v ≢ s
not_topmost costs n held halves child next link s base p top top' mate mate' z v v_in off same = false≢true (sym off ∙ ap (λ t. holds n held t v) (sym same) ∙ z.parts.own v v_in)

pub at_base : (costs : Costs) (n : ℕ) (held : List Bool) (halves : List ℕ) (child : List (Option ℕ)) (next : List ℕ) (link : List Pair) (s base : ℕ) (p : Pair)
    (top top' : List ℕ) (mate mate' : List (Option Pair)) → (z : IsOpenedTop costs n held halves child next link s base p top top' mate mate') → slice_index top' p.inside ≡ base
at_base costs n held halves child next link s base p top top' mate mate' z = z.opening.own 0 p.inside (omega (arith, z.opening.cycle.several)) z.opening.inside_in z.opening.base_holds

pub inside_held : (costs : Costs) (n : ℕ) (held : List Bool) (halves : List ℕ) (child : List (Option ℕ)) (next : List ℕ) (link : List Pair) (s base : ℕ) (p : Pair)
    (top top' : List ℕ) (mate mate' : List (Option Pair)) → (z : IsOpenedTop costs n held halves child next link s base p top top' mate mate') → holds n held s p.inside ≡ true
inside_held costs n held halves child next link s base p top top' mate mate' z = z.opening.cycle.inner 0 p.inside (omega (arith, z.opening.cycle.several)) z.opening.inside_in z.opening.base_holds

-- one pair leads out of the set that is opened
opened_self : (costs : Costs) (n : ℕ) (held : List Bool) (halves : List ℕ) (child : List (Option ℕ)) (next : List ℕ) (link : List Pair) (s base : ℕ) (p : Pair)
    (top top' : List ℕ) (mate mate' : List (Option Pair)) → (z : IsOpenedTop costs n held halves child next link s base p top top' mate mate') → IsLedOut n (holds n held s) top' mate'
opened_self costs n held halves child next link s base p top top' mate mate' z =
    let base_is = at_base costs n held halves child next link s base p top top' mate mate' z in
    record {
      base = p.inside;
      base_in = z.opening.inside_in;
      held = inside_held costs n held halves child next link s base p top top' mate mate' z;
      pair = p;
      is = ap (λ t. mate_at mate' t) base_is ∙ z.opening.at_base;
      out = pair_out costs n held halves child next link s base p top top' mate mate' z;
      others = λ v q v_in on other is. elim (where_now costs n held halves child next link s base p top top' mate mate' z.opening v v_in) [
        | inl i ↦ elim (cases_eq i.place 0) [
          | inl first ↦ absurd (other (i.at ∙ ap (λ k. after next k base) first ∙ sym base_is))
          | inr later ↦ child_pair_inside costs n held halves child next link s base p top top' mate mate' z i.place q (omega (arith, later)) i.place_in (ap (λ t. mate_at mate' t) (sym i.at) ∙ is)
        ]
        | inr e ↦ absurd (false≢true (sym e.not_held ∙ on))
      ];
      whole = λ v w v_in w_in on same. in_by_top costs n held halves child next link s base p top top' mate mate' z v w v_in w_in on same;
    }

opened_alike : (costs : Costs) (n : ℕ) (held : List Bool) (halves : List ℕ) (child : List (Option ℕ)) (next : List ℕ) (link : List Pair) (s base : ℕ) (p : Pair)
    (top top' : List ℕ) (mate mate' : List (Option Pair)) → (z : IsOpenedTop costs n held halves child next link s base p top top' mate mate') → IsNest costs n held halves child next link →
    s < 2 * n → is_used n child s ≡ true → (t : ℕ) → t < 2 * n → is_used n child t ≡ true → t ≢ s → IsAlike n (holds n held t) top → IsAlike n (holds n held t) top'
opened_alike costs n held halves child next link s base p top top' mate mate' z nest s_in s_used t t_in t_used other alike v w v_in w_in at_v at_w =
    elim (where_now costs n held halves child next link s base p top top' mate mate' z.opening v v_in) [
      | inl i ↦
          let k = in_child costs n held halves child next link nest s base t z.opening.cycle s_in s_used t_in t_used other
          (λ x x_in at_x. ap (λ y. holds n held y x) (sym (z.topmost v v_in i.held_in) ∙ alike v x v_in x_in at_v at_x) ∙ z.parts.own x x_in) in
          z.opening.own k.0 v k.1 v_in (k.2 v v_in at_v) ∙ sym (z.opening.own k.0 w k.1 w_in (k.2 w w_in at_w))
      | inr e ↦ elim (where_now costs n held halves child next link s base p top top' mate mate' z.opening w w_in) [
        | inl j ↦ absurd (not_topmost costs n held halves child next link s base p top top' mate mate' z v v_in e.not_held (alike v w v_in w_in at_v at_w ∙ z.topmost w w_in j.held_in))
        | inr f ↦ e.at ∙ alike v w v_in w_in at_v at_w ∙ sym f.at
      ]
    ]

-- a set beside the one that is opened
opened_beside : (costs : Costs) (n : ℕ) (held : List Bool) (halves : List ℕ) (child : List (Option ℕ)) (next : List ℕ) (link : List Pair) (s base : ℕ) (p : Pair)
    (top top' : List ℕ) (mate mate' : List (Option Pair)) → (z : IsOpenedTop costs n held halves child next link s base p top top' mate mate') →
    (t : ℕ) → holds n held t p.inside ≡ false → IsLedOut n (holds n held t) top mate → IsLedOut n (holds n held t) top' mate'
opened_beside costs n held halves child next link s base p top top' mate mate' z t off l =
    let held_s = inside_held costs n held halves child next link s base p top top' mate mate' z in
    let beside : (v : ℕ) → v < n → holds n held t v ≡ true → holds n held s v ≡ false = λ v v_in at_v. false_from_ne_true (holds n held s v)
    (λ on. false≢true (sym off ∙ l.whole v p.inside v_in z.opening.inside_in at_v (z.topmost p.inside z.opening.inside_in held_s ∙ sym (z.topmost v v_in on)))) in
    let at : (v : ℕ) → v < n → holds n held t v ≡ true → slice_index top' v ≡ slice_index top v = λ v v_in at_v. z.opening.off v v_in (beside v v_in at_v) in
    let pair_at : (v : ℕ) → v < n → holds n held t v ≡ true → mate_at mate' (slice_index top' v) ≡ mate_at mate (slice_index top v) =
    λ v v_in at_v. pair_elsewhere costs n held halves child next link s base p top top' mate mate' z v v_in (beside v v_in at_v) in
    record {
      base = l.base;
      base_in = l.base_in;
      held = l.held;
      pair = l.pair;
      is = pair_at l.base l.base_in l.held ∙ l.is;
      out = l.out;
      others = λ v q v_in at_v other is. l.others v q v_in at_v (λ e. other (at v v_in at_v ∙ e ∙ sym (at l.base l.base_in l.held))) (sym (pair_at v v_in at_v) ∙ is);
      whole = λ v w v_in w_in at_v same.
          let w_off : holds n held s w ≡ false = false_from_ne_true (holds n held s w)
          (λ on. false≢true (sym (beside v v_in at_v) ∙ in_by_top costs n held halves child next link s base p top top' mate mate' z w v w_in v_in on (sym same))) in
          l.whole v w v_in w_in at_v (sym (z.opening.off w w_in w_off) ∙ same ∙ at v v_in at_v);
    }

-- a set around the one that is opened: its members, and their pairs
opened_whole : (costs : Costs) (n : ℕ) (held : List Bool) (halves : List ℕ) (child : List (Option ℕ)) (next : List ℕ) (link : List Pair) (s base : ℕ) (p : Pair)
    (top top' : List ℕ) (mate mate' : List (Option Pair)) → (z : IsOpenedTop costs n held halves child next link s base p top top' mate mate') →
    (t : ℕ) → ((v : ℕ) → v < n → holds n held s v ≡ true → holds n held t v ≡ true) → IsLedOut n (holds n held t) top mate →
    (v w : ℕ) → v < n → w < n → holds n held t v ≡ true → slice_index top' w ≡ slice_index top' v → holds n held t w ≡ true
opened_whole costs n held halves child next link s base p top top' mate mate' z t inside l v w v_in w_in at_v same = elim (cases_Bool (holds n held s v)) [
  | inl on ↦ inside w w_in (in_by_top costs n held halves child next link s base p top top' mate mate' z v w v_in w_in on same)
  | inr off ↦
      let w_off : holds n held s w ≡ false = false_from_ne_true (holds n held s w)
      (λ on. false≢true (sym off ∙ in_by_top costs n held halves child next link s base p top top' mate mate' z w v w_in v_in on (sym same))) in
      l.whole v w v_in w_in at_v (sym (z.opening.off w w_in w_off) ∙ same ∙ z.opening.off v v_in off)
]

opened_around : (costs : Costs) (n : ℕ) (held : List Bool) (halves : List ℕ) (child : List (Option ℕ)) (next : List ℕ) (link : List Pair) (s base : ℕ) (p : Pair)
    (top top' : List ℕ) (mate mate' : List (Option Pair)) → (z : IsOpenedTop costs n held halves child next link s base p top top' mate mate') →
    (t : ℕ) → ((v : ℕ) → v < n → holds n held s v ≡ true → holds n held t v ≡ true) → IsLedOut n (holds n held t) top mate → IsLedOut n (holds n held t) top' mate'
opened_around costs n held halves child next link s base p top top' mate mate' z t inside l =
    let base_is = at_base costs n held halves child next link s base p top top' mate mate' z in
    let held_s = inside_held costs n held halves child next link s base p top top' mate mate' z in
    elim (cases_eq (slice_index top l.base) s) [
      | inl same ↦ record {
        base = p.inside;
        base_in = z.opening.inside_in;
        held = inside p.inside z.opening.inside_in held_s;
        pair = p;
        is = ap (λ x. mate_at mate' x) base_is ∙ z.opening.at_base;
        out = ap (λ x. holds n held t x.outside) (some_same p l.pair (sym z.matched ∙ ap (λ x. mate_at mate x) (sym same) ∙ l.is)) ∙ l.out;
        others = λ v q v_in at_v other is. elim (where_now costs n held halves child next link s base p top top' mate mate' z.opening v v_in) [
          | inl i ↦ elim (cases_eq i.place 0) [
            | inl first ↦ absurd (other (i.at ∙ ap (λ k. after next k base) first ∙ sym base_is))
            | inr later ↦ through v q i.place (omega (arith, later)) i.place_in i.at is
          ]
          | inr e ↦ l.others v q v_in at_v
              (λ same_top. not_topmost costs n held halves child next link s base p top top' mate mate' z v v_in e.not_held (same_top ∙ same))
              (sym (pair_elsewhere costs n held halves child next link s base p top top' mate mate' z v v_in e.not_held) ∙ is)
        ];
        whole = opened_whole costs n held halves child next link s base p top top' mate mate' z t inside l;
      }
      | inr differ ↦
          let base_off : holds n held s l.base ≡ false = false_from_ne_true (holds n held s l.base) (λ on. differ (z.topmost l.base l.base_in on)) in
          record {
            base = l.base;
            base_in = l.base_in;
            held = l.held;
            pair = l.pair;
            is = pair_elsewhere costs n held halves child next link s base p top top' mate mate' z l.base l.base_in base_off ∙ l.is;
            out = l.out;
            others = λ v q v_in at_v other is. elim (where_now costs n held halves child next link s base p top top' mate mate' z.opening v v_in) [
              | inl i ↦ elim (cases_eq i.place 0) [
                | inl first ↦
                    let same : p ≡ q = some_same p q (sym z.opening.at_base ∙ ap (λ k. mate_at mate' (after next k base)) (sym first) ∙ ap (λ x. mate_at mate' x) (sym i.at) ∙ is) in
                    ap (λ x. holds n held t x.outside) (sym same)
                    ∙ l.others p.inside p z.opening.inside_in (inside p.inside z.opening.inside_in held_s)
                    (λ e. differ (sym e ∙ z.topmost p.inside z.opening.inside_in held_s)) (ap (λ x. mate_at mate x) (z.topmost p.inside z.opening.inside_in held_s) ∙ z.matched)
                | inr later ↦ through v q i.place (omega (arith, later)) i.place_in i.at is
              ]
              | inr e ↦ l.others v q v_in at_v (λ same. other (e.at ∙ same ∙ sym (z.opening.off l.base l.base_in base_off)))
                  (sym (pair_elsewhere costs n held halves child next link s base p top top' mate mate' z v v_in e.not_held) ∙ is)
            ];
            whole = opened_whole costs n held halves child next link s base p top top' mate mate' z t inside l;
          }
    ]
  where
    through : (v : ℕ) (q : Pair) (k : ℕ) → 1 ≤ k → k < z.opening.cycle.len → slice_index top' v ≡ after next k base → mate_at mate' (slice_index top' v) ≡ Some q → holds n held t q.outside ≡ true
    through v q k some k_in at is =
        let r = z.opening.partner k some k_in in
        let same : r.pair ≡ q = some_same r.pair q (sym r.is ∙ ap (λ x. mate_at mate' x) (sym at) ∙ is) in
        ap (λ x. holds n held t x.outside) (sym same) ∙ inside r.pair.outside r.outside_in (z.opening.cycle.inner r.other r.pair.outside r.other_in r.outside_in r.there)

pub opened_once : (costs : Costs) (n : ℕ) (held : List Bool) (halves : List ℕ) (child : List (Option ℕ)) (next : List ℕ) (link : List Pair) (s base : ℕ) (p : Pair)
    (top top' : List ℕ) (mate mate' : List (Option Pair)) → (z : IsOpenedTop costs n held halves child next link s base p top top' mate mate') → IsNest costs n held halves child next link →
    s < 2 * n → is_used n child s ≡ true → AreLedOut n held child top mate → AreLedOut n held child top' mate'
opened_once costs n held halves child next link s base p top top' mate mate' z nest s_in s_used once t t_in t_used = elim (cases_eq t s) [
  | inl same ↦ inr (subst (λ x. IsLedOut n (holds n held x) top' mate') (sym same) (opened_self costs n held halves child next link s base p top top' mate mate' z))
  | inr other ↦ elim (once t t_in t_used) [
    | inl alike ↦ inl (opened_alike costs n held halves child next link s base p top top' mate mate' z nest s_in s_used t t_in t_used other alike)
    | inr led ↦ inr (elim (cases_Bool (holds n held t p.inside)) [
      | inr off ↦ opened_beside costs n held halves child next link s base p top top' mate mate' z t off led
      | inl on ↦ opened_around costs n held halves child next link s base p top top' mate mate' z t
          (λ v v_in at_v. led.whole p.inside v z.opening.inside_in v_in on
          (z.topmost v v_in at_v ∙ sym (z.topmost p.inside z.opening.inside_in (inside_held costs n held halves child next link s base p top top' mate mate' z))))
          led
    ])
  ]
]

-- the node of a member of the set has fewer members now
pub opened_fewer : (costs : Costs) (n : ℕ) (held : List Bool) (halves : List ℕ) (child : List (Option ℕ)) (next : List ℕ) (link : List Pair) (s base : ℕ) (p : Pair)
    (top top' : List ℕ) (mate mate' : List (Option Pair)) → (z : IsOpenedTop costs n held halves child next link s base p top top' mate mate') →
    (v : ℕ) → v < n → slice_index top v ≡ s → members n (holds n held (slice_index top' v)) < members n (holds n held (slice_index top v))
opened_fewer costs n held halves child next link s base p top top' mate mate' z v v_in at = elim (where_now costs n held halves child next link s base p top top' mate mate' z.opening v v_in) [
  | inl i ↦ subst (λ x. members n (holds n held x) < members n (holds n held (slice_index top v))) (sym i.at)
      (subst (λ x. members n (holds n held (after next i.place base)) < members n (holds n held x)) (sym at)
      (child_fewer costs n held halves child next link s base z.sets z.opening.cycle i.place i.place_in))
  | inr e ↦ absurd (not_topmost costs n held halves child next link s base p top top' mate mate' z v v_in e.not_held at)
]

-- the other nodes stay
pub opened_others : (costs : Costs) (n : ℕ) (held : List Bool) (halves : List ℕ) (child : List (Option ℕ)) (next : List ℕ) (link : List Pair) (s base : ℕ) (p : Pair)
    (top top' : List ℕ) (mate mate' : List (Option Pair)) → (z : IsOpenedTop costs n held halves child next link s base p top top' mate mate') →
    (w : ℕ) → w < n → slice_index top w ≢ s → slice_index top' w ≡ slice_index top w
opened_others costs n held halves child next link s base p top top' mate mate' z w w_in other =
    z.opening.off w w_in (false_from_ne_true (holds n held s w) (λ on. other (z.topmost w w_in on)))
