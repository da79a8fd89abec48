-- The outermost nodes and their pairs once a set is opened.
use Rattle.std.proofs.Common.{◌≡◌, ◌≢◌, ◌⊎◌, ℕ, zero, suc, ◌*◌, ◌%◌, ◌<◌, Bool, true, false, List, Option, Some, None, IsSomeAnd, slice_index, refl, sym, subst, ap, ◌∙◌, arith, inl, inr}
use Rattle.std.proofs.lemmas.Bool.{cases_Bool, false≢true, false_from_ne_true}
use Rattle.blossom_match.specs.declared.costs.Costs.{Costs}
use Rattle.blossom_match.specs.declared.state.Pair.{Pair}
use Rattle.blossom_match.specs.Views.{holds, turned, mate_at}
use Rattle.blossom_match.specs.Between.{IsCycle, AreSets, after}
use Rattle.blossom_match.specs.Unfolding.{AreParts, IsPaired}
use Rattle.blossom_match.proofs.Augmenting.{some_same}
use Rattle.blossom_match.proofs.Moving.{is_some_map}
use Rattle.blossom_match.proofs.RowsAround.{child_apart}
use Rattle.blossom_match.proofs.RowsOpening.{IsOpening}

pub some_is : (o : Option Pair) (P : Pair → Type 0) (p : Pair) → o ≡ Some p → P p → IsSomeAnd o P
some_is o P p is has = subst (λ x. IsSomeAnd x P) (sym is) has

pub some_pair : (o : Option Pair) (P : Pair → Type 0) → IsSomeAnd o P → (p : Pair) × (o ≡ Some p) × P p
some_pair None P has = absurd has
some_pair (Some p) P has = (p, refl, has)

-- an outermost set, and what opens it
pub record IsOpenedTop (costs : Costs) (n : ℕ) (held : List Bool) (halves : List ℕ) (child : List (Option ℕ)) (next : List ℕ) (link : List Pair) (s base : ℕ) (p : Pair)
    (top top' : List ℕ) (mate mate' : List (Option Pair)) : Type 0 where
  pub opening : IsOpening costs n held halves child next link s base p top top' mate mate'
  pub sets : AreSets n held halves child
  pub parts : AreParts n held top
  pub topmost : (v : ℕ) → v < n → holds n held s v ≡ true → slice_index top v ≡ s
  pub matched : mate_at mate s ≡ Some p
  pub paired : IsPaired costs n held halves top mate s p

-- a member of a child, or of another outermost node
pub record IsInChild (n : ℕ) (held : List Bool) (next : List ℕ) (s base len : ℕ) (top' : List ℕ) (v : ℕ) : Type 0 where
  pub place : ℕ
  pub place_in : place < len
  pub held_there : holds n held (after next place base) v ≡ true
  pub held_in : holds n held s v ≡ true
  pub at : slice_index top' v ≡ after next place base

pub record IsElsewhere (n : ℕ) (held : List Bool) (s : ℕ) (top top' : List ℕ) (v : ℕ) : Type 0 where
  pub not_held : holds n held s v ≡ false
  pub at : slice_index top' v ≡ slice_index top v

pub where_now : (costs : Costs) (n : ℕ) (held : List Bool) (halves : List ℕ) (child : List (Option ℕ)) (next : List ℕ) (link : List Pair) (s base : ℕ) (p : Pair)
    (top top' : List ℕ) (mate mate' : List (Option Pair)) → (x : IsOpening costs n held halves child next link s base p top top' mate mate') →
    (v : ℕ) → v < n → IsInChild n held next s base x.cycle.len top' v ⊎ IsElsewhere n held s top top' v
where_now costs n held halves child next link s base p top top' mate mate' x v v_in = elim (cases_Bool (holds n held s v)) [
  | inl on ↦ (let k = x.cycle.covers v v_in on in inl (record { place = k.0; place_in = k.1; held_there = k.2; held_in = on; at = x.own k.0 v k.1 v_in k.2 }))
  | inr off ↦ inr (record { not_held = off; at = x.off v v_in off })
]

-- a node elsewhere is no child
pub not_child : (costs : Costs) (n : ℕ) (held : List Bool) (halves : List ℕ) (child : List (Option ℕ)) (next : List ℕ) (link : List Pair) (s base : ℕ) (top : List ℕ) →
    (y : IsCycle costs n held halves child next link s base) → AreParts n held top → (v : ℕ) → v < n → holds n held s v ≡ false → (k : ℕ) → k < y.len → slice_index top v ≢ after next k base
not_child costs n held halves child next link s base top y parts v v_in off k k_in same =
    false≢true (sym off ∙ y.inner k v k_in v_in (ap (λ t. holds n held t v) (sym same) ∙ parts.own v v_in))

pub opened_parts : (costs : Costs) (n : ℕ) (held : List Bool) (halves : List ℕ) (child : List (Option ℕ)) (next : List ℕ) (link : List Pair) (s base : ℕ) (p : Pair)
    (top top' : List ℕ) (mate mate' : List (Option Pair)) → IsOpenedTop costs n held halves child next link s base p top top' mate mate' → AreParts n held top'
opened_parts costs n held halves child next link s base p top top' mate mate' z =
    record {
      top_in = λ v v_in. elim (where_now costs n held halves child next link s base p top top' mate mate' z.opening v v_in) [
        | inl i ↦ subst (λ t. t < 2 * n) (sym i.at) (z.opening.cycle.in_slots i.place i.place_in)
        | inr e ↦ subst (λ t. t < 2 * n) (sym e.at) (z.parts.top_in v v_in)
      ];
      own = λ v v_in. elim (where_now costs n held halves child next link s base p top top' mate mate' z.opening v v_in) [
        | inl i ↦ ap (λ t. holds n held t v) i.at ∙ i.held_there
        | inr e ↦ ap (λ t. holds n held t v) e.at ∙ z.parts.own v v_in
      ];
      same = λ v w v_in w_in on. elim (where_now costs n held halves child next link s base p top top' mate mate' z.opening v v_in) [
        | inl i ↦ z.opening.own i.place w i.place_in w_in (ap (λ t. holds n held t w) (sym i.at) ∙ on) ∙ sym i.at
        | inr e ↦
            let same_top : slice_index top w ≡ slice_index top v = z.parts.same v w v_in w_in (ap (λ t. holds n held t w) (sym e.at) ∙ on) in
            elim (where_now costs n held halves child next link s base p top top' mate mate' z.opening w w_in) [
              | inl j ↦ absurd (false≢true (sym e.not_held ∙ ap (λ t. holds n held t v) (sym (z.topmost w w_in j.held_in) ∙ same_top) ∙ z.parts.own v v_in))
              | inr f ↦ f.at ∙ same_top ∙ sym e.at
            ]
      ];
    }

-- a member elsewhere is matched as before
pub matched_elsewhere : (costs : Costs) (n : ℕ) (held : List Bool) (halves : List ℕ) (child : List (Option ℕ)) (next : List ℕ) (link : List Pair) (s base : ℕ) (p : Pair)
    (top top' : List ℕ) (mate mate' : List (Option Pair)) → IsOpenedTop costs n held halves child next link s base p top top' mate mate' →
    (v : ℕ) (q : Pair) → v < n → holds n held s v ≡ false → IsPaired costs n held halves top mate (slice_index top v) q → IsPaired costs n held halves top' mate' (slice_index top v) q
matched_elsewhere costs n held halves child next link s base p top top' mate mate' z v q v_in off m =
    let inside_off : holds n held s q.inside ≡ false = false_from_ne_true (holds n held s q.inside)
    (λ on. false≢true (sym off ∙ ap (λ t. holds n held t v) (sym (z.topmost q.inside m.inside_in on) ∙ m.here) ∙ z.parts.own v v_in)) in
    let here : slice_index top' q.inside ≡ slice_index top v = z.opening.off q.inside m.inside_in inside_off ∙ m.here in
    elim (cases_Bool (holds n held s q.outside)) [
      | inl on ↦
          let turned_is : p ≡ turned q = some_same p (turned q) (sym z.matched ∙ ap (λ t. mate_at mate t) (sym (z.topmost q.outside m.outside_in on)) ∙ m.back) in
          let at : slice_index top' q.outside ≡ base = ap (λ x. slice_index top' x.inside) (sym turned_is) ∙ z.opening.own 0 p.inside (omega (arith, z.opening.cycle.several)) z.opening.inside_in z.opening.base_holds in
          record {
            inside_in = m.inside_in;
            outside_in = m.outside_in;
            here = here;
            apart = λ e. not_child costs n held halves child next link s base top z.opening.cycle z.parts v v_in off 0 (omega (arith, z.opening.cycle.several)) (sym e ∙ at);
            tight = m.tight;
            back = ap (λ t. mate_at mate' t) at ∙ z.opening.at_base ∙ ap (λ x. Some x) turned_is;
          }
      | inr out ↦
          let at : slice_index top' q.outside ≡ slice_index top q.outside = z.opening.off q.outside m.outside_in out in
          record {
            inside_in = m.inside_in;
            outside_in = m.outside_in;
            here = here;
            apart = λ e. m.apart (sym at ∙ e);
            tight = m.tight;
            back = ap (λ t. mate_at mate' t) at
                ∙ z.opening.mates_off (slice_index top q.outside) (λ k k_in. not_child costs n held halves child next link s base top z.opening.cycle z.parts q.outside m.outside_in out k k_in) ∙ m.back;
          }
    ]

-- the pair of the whole leads out of it
pub pair_out : (costs : Costs) (n : ℕ) (held : List Bool) (halves : List ℕ) (child : List (Option ℕ)) (next : List ℕ) (link : List Pair) (s base : ℕ) (p : Pair)
    (top top' : List ℕ) (mate mate' : List (Option Pair)) → IsOpenedTop costs n held halves child next link s base p top top' mate mate' → holds n held s p.outside ≡ false
pair_out costs n held halves child next link s base p top top' mate mate' z =
    false_from_ne_true (holds n held s p.outside) (λ on. z.paired.apart (z.topmost p.outside z.paired.outside_in on))

-- a child is matched
pub matched_child : (costs : Costs) (n : ℕ) (held : List Bool) (halves : List ℕ) (child : List (Option ℕ)) (next : List ℕ) (link : List Pair) (s base : ℕ) (p : Pair)
    (top top' : List ℕ) (mate mate' : List (Option Pair)) → (z : IsOpenedTop costs n held halves child next link s base p top top' mate mate') →
    (k : ℕ) → k < z.opening.cycle.len → IsSomeAnd (mate_at mate' (after next k base)) (IsPaired costs n held halves top' mate' (after next k base))
matched_child costs n held halves child next link s base p top top' mate mate' z zero k_in =
    let out = pair_out costs n held halves child next link s base p top top' mate mate' z in
    let at : slice_index top' p.outside ≡ slice_index top p.outside = z.opening.off p.outside z.paired.outside_in out in
    let other : (k : ℕ) → k < z.opening.cycle.len → slice_index top p.outside ≢ after next k base = not_child costs n held halves child next link s base top z.opening.cycle z.parts p.outside z.paired.outside_in out in
    some_is (mate_at mate' base) (IsPaired costs n held halves top' mate' base) p z.opening.at_base
    (record {
      inside_in = z.paired.inside_in;
      outside_in = z.paired.outside_in;
      here = z.opening.own 0 p.inside k_in z.opening.inside_in z.opening.base_holds;
      apart = λ e. other 0 k_in (sym at ∙ e);
      tight = z.paired.tight;
      back = ap (λ t. mate_at mate' t) at ∙ z.opening.mates_off (slice_index top p.outside) other ∙ z.paired.back;
    })
matched_child costs n held halves child next link s base p top top' mate mate' z (suc k) k_in =
    let r = z.opening.partner (suc k) (omega arith) k_in in
    let at : slice_index top' r.pair.outside ≡ after next r.other base = z.opening.own r.other r.pair.outside r.other_in r.outside_in r.there in
    some_is (mate_at mate' (after next (suc k) base)) (IsPaired costs n held halves top' mate' (after next (suc k) base)) r.pair r.is
    (record {
      inside_in = r.inside_in;
      outside_in = r.outside_in;
      here = z.opening.own (suc k) r.pair.inside k_in r.inside_in r.here;
      apart = λ e. child_apart costs n held halves child next link s base z.sets z.opening.cycle r.other (suc k) r.other_in k_in (beside r.other k r.near) (sym at ∙ e);
      tight = r.tight;
      back = ap (λ t. mate_at mate' t) at ∙ r.back;
    })
  where
    beside : (other k : ℕ) → ((suc k % 2 ≡ 1) × (other ≡ suc (suc k))) ⊎ ((suc k % 2 ≡ 0) × (suc k ≡ suc other)) → other ≢ suc k
    beside other k (inl is) e = omega (arith, is.1, e)
    beside other k (inr is) e = omega (arith, is.1, e)

pub opened_matched : (costs : Costs) (n : ℕ) (held : List Bool) (halves : List ℕ) (child : List (Option ℕ)) (next : List ℕ) (link : List Pair) (s base : ℕ) (p : Pair)
    (top top' : List ℕ) (mate mate' : List (Option Pair)) → IsOpenedTop costs n held halves child next link s base p top top' mate mate' →
    (v : ℕ) → v < n → (holds n held s v ≡ false → IsSomeAnd (mate_at mate (slice_index top v)) (IsPaired costs n held halves top mate (slice_index top v))) →
    IsSomeAnd (mate_at mate' (slice_index top' v)) (IsPaired costs n held halves top' mate' (slice_index top' v))
opened_matched costs n held halves child next link s base p top top' mate mate' z v v_in old = elim (where_now costs n held halves child next link s base p top top' mate mate' z.opening v v_in) [
  | inl i ↦ subst (λ t. IsSomeAnd (mate_at mate' t) (IsPaired costs n held halves top' mate' t)) (sym i.at) (matched_child costs n held halves child next link s base p top top' mate mate' z i.place i.place_in)
  | inr e ↦ subst (λ t. IsSomeAnd (mate_at mate' t) (IsPaired costs n held halves top' mate' t)) (sym e.at)
      (subst (λ o. IsSomeAnd o (IsPaired costs n held halves top' mate' (slice_index top v)))
      (sym (z.opening.mates_off (slice_index top v) (λ k k_in. not_child costs n held halves child next link s base top z.opening.cycle z.parts v v_in e.not_held k k_in)))
      (is_some_map (mate_at mate (slice_index top v)) (IsPaired costs n held halves top mate (slice_index top v)) (IsPaired costs n held halves top' mate' (slice_index top v))
      (λ q q_is m. matched_elsewhere costs n held halves child next link s base p top top' mate mate' z v q v_in e.not_held m) (old e.not_held)))
]
