-- A cycle of children is kept where what it speaks of is kept.
use Rattle.std.proofs.Common.{◌≡◌, ℕ, zero, suc, ◌*◌, ◌<◌, ◌≤◌, Bool, true, cond, List, Option, slice_index, refl, sym, subst, ap, ◌∙◌, arith, inl, inr}
use Rattle.std.proofs.lemmas.Bool.{cases_eq, false≢true}
use Rattle.blossom_match.specs.declared.costs.Costs.{Costs}
use Rattle.blossom_match.specs.declared.state.Pair.{Pair}
use Rattle.blossom_match.specs.Matching.{members, IsOdd}
use Rattle.blossom_match.specs.Views.{holds, between, link_at, is_used}
use Rattle.blossom_match.specs.Between.{IsCycle, IsLink, AreSets, AreTops, after}
use Rattle.blossom_match.proofs.Totals.{total-none}
use Rattle.blossom_match.proofs.Duality.{some_or_none}

-- an odd set has a member
pub odd_member : (n : ℕ) (set : ℕ → Bool) → IsOdd n set → (v : ℕ) × (v < n) × (set v ≡ true)
odd_member n set odd = elim (some_or_none n set) [
  | inl some ↦ some
  | inr none ↦
      let empty : members n set ≡ 0 = total-none n (λ v. cond (set v) 1 0) (λ v v_in. ap (λ b. cond b 1 0) (none v v_in)) in
      absurd (omega (arith, empty, odd))
]

pub after_same : (next next' : List ℕ) (c len : ℕ) → ((k : ℕ) → k < len → slice_index next' (after next k c) ≡ slice_index next (after next k c)) → (k : ℕ) → k ≤ len → after next' k c ≡ after next k c
after_same next next' c len same zero below = refl
after_same next next' c len same (suc k) below =
    ap (λ x. slice_index next' x) (after_same next next' c len same k (omega arith)) ∙ same k (omega arith)

-- the next child of a child is a child
pub cycle_moved : (costs : Costs) (n : ℕ) (held held' : List Bool) (halves halves' : List ℕ) (child child' : List (Option ℕ)) (next next' : List ℕ) (link link' : List Pair) (s c : ℕ) →
    (y : IsCycle costs n held halves child next link s c) →
    ((k : ℕ) → k < y.len → slice_index next' (after next k c) ≡ slice_index next (after next k c)) →
    ((k : ℕ) → k < y.len → link_at link' (after next k c) ≡ link_at link (after next k c)) →
    ((k : ℕ) → k < y.len → is_used n child' (after next k c) ≡ true) →
    ((v : ℕ) → v < n → holds n held' s v ≡ holds n held s v) →
    ((k v : ℕ) → k ≤ y.len → v < n → holds n held' (after next k c) v ≡ holds n held (after next k c) v) →
    ((u v : ℕ) → u < n → v < n → between n held' halves' u v ≡ between n held halves u v) →
    IsCycle costs n held' halves' child' next' link' s c
cycle_moved costs n held held' halves halves' child child' next next' link link' s c y same_next same_link used whole rows same_between =
    let at : (k : ℕ) → k ≤ y.len → after next' k c ≡ after next k c = after_same next next' c y.len same_next in
    let row : (k v : ℕ) → k ≤ y.len → v < n → holds n held' (after next' k c) v ≡ holds n held (after next k c) v =
    λ k v k_in v_in. ap (λ x. holds n held' x v) (at k k_in) ∙ rows k v k_in v_in in
    record {
      len = y.len;
      odd = y.odd;
      several = y.several;
      closes = at y.len (omega arith) ∙ y.closes;
      in_slots = λ k k_in. subst (λ x. x < 2 * n) (sym (at k (omega arith))) (y.in_slots k k_in);
      used = λ k k_in. ap (λ x. is_used n child' x) (at k (omega arith)) ∙ used k k_in;
      inner = λ k v k_in v_in on. whole v v_in ∙ y.inner k v k_in v_in (sym (row k v (omega arith) v_in) ∙ on);
      covers = λ v v_in on.
          let w = y.covers v v_in (sym (whole v v_in) ∙ on) in
          (w.0, w.1, row w.0 v (omega (arith, w.1)) v_in ∙ w.2);
      disjoint = λ j k less k_in v v_in on. row k v (omega arith) v_in ∙ y.disjoint j k less k_in v v_in (sym (row j v (omega arith) v_in) ∙ on);
      links = λ k k_in.
          let l = y.links k k_in in
          let is : link_at link' (after next' k c) ≡ link_at link (after next k c) = ap (λ x. link_at link' x) (at k (omega arith)) ∙ same_link k k_in in
          subst (λ p. IsLink costs n held' halves' p (after next' k c) (after next' (suc k) c)) (sym is) (record {
            inside_in = l.inside_in;
            outside_in = l.outside_in;
            leaves = row k (link_at link (after next k c)).inside (omega arith) l.inside_in ∙ l.leaves;
            enters = row (suc k) (link_at link (after next k c)).outside (omega arith) l.outside_in ∙ l.enters;
            tight = same_between (link_at link (after next k c)).inside (link_at link (after next k c)).outside l.inside_in l.outside_in ∙ l.tight;
          });
    }

-- a child is no outermost node
pub child_inside : (costs : Costs) (n : ℕ) (held : List Bool) (halves top : List ℕ) (child : List (Option ℕ)) (next : List ℕ) (link : List Pair) (s c : ℕ) →
    AreTops n held top → AreSets n held halves child → s < 2 * n → (y : IsCycle costs n held halves child next link s c) → (k w : ℕ) → k < y.len → w < n → slice_index top w ≡ after next k c → ⊥
child_inside costs n held halves top child next link s c tops sets s_in y k w k_in w_in is = elim (cases_eq k 0) [
  | inl first ↦ clash 1 (omega (arith, y.several)) (λ v v_in on both. false≢true (sym (y.disjoint 0 1 (omega arith) (omega (arith, y.several)) v v_in (subst (λ j. holds n held (after next j c) v ≡ true) first both)) ∙ on))
  | inr later ↦ clash 0 (omega (arith, y.several)) (λ v v_in on both. false≢true (sym (y.disjoint 0 k (omega (arith, later)) k_in v v_in on) ∙ both))
]
  where
    clash : (j : ℕ) → j < y.len → ((v : ℕ) → v < n → holds n held (after next j c) v ≡ true → holds n held (after next k c) v ≡ true → ⊥) → ⊥
    clash j j_in never =
        let m = odd_member n (holds n held (after next j c)) (sets.odd (after next j c) (y.in_slots j j_in) (y.used j j_in)) in
        let own : holds n held (after next k c) w ≡ true = subst (λ x. holds n held x w ≡ true) is (tops.own w w_in) in
        let same : slice_index top m.0 ≡ after next k c =
        tops.inside s m.0 w s_in m.1 w_in (y.inner j m.0 j_in m.1 m.2) (y.inner k w k_in w_in own) ∙ is in
        never m.0 m.1 m.2 (subst (λ x. holds n held x m.0 ≡ true) same (tops.own m.0 m.1))
