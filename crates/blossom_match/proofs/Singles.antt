-- What holds before the first search.
use Rattle.std.proofs.Common.{◌≡◌, ◌≢◌, ℕ, zero, suc, ◌+◌, ◌*◌, ◌%◌, ◌<◌, ◌≤◌, Bool, true, false, ◌||◌, cond, ltb, List, Option, None, is_some, IfSome, slice_index, get_or, replicate, refl, sym, subst, ap, ◌∙◌, arith, inl, inr}
use Rattle.std.proofs.lemmas.Bool.{cases_eq, cases_lt, le-ltb, lt-ltb, false≢true}
use Rattle.blossom_match.specs.declared.costs.Costs.{Costs}
use Rattle.blossom_match.specs.declared.state.State.{State}
use Rattle.blossom_match.specs.declared.state.Pair.{Pair}
use Rattle.blossom_match.specs.Matching.{members, parts}
use Rattle.blossom_match.specs.Views.{holds, between, mate_at, child_at}
use Rattle.blossom_match.specs.Between.{AreTops, AreSets, AreWeights, AreCycles, AreBased, IsCycle, IsMatched, IsShape, IsBetween}
use Rattle.blossom_match.proofs.Totals.{total-none, total-only}

-- single members, each its own outermost node
pub record AreSingles (n : ℕ) (held : List Bool) (halves top sums : List ℕ) (child : List (Option ℕ)) (mate : List (Option Pair)) (base : List ℕ) : Type 0 where
  pub own : (v : ℕ) → v < n → holds n held v v ≡ true
  pub others : (s v : ℕ) → v < n → s ≢ v → holds n held s v ≡ false
  pub weightless : (s : ℕ) → slice_index halves s ≡ 0
  pub tops : (v : ℕ) → v < n → slice_index top v ≡ v
  pub sumless : (v : ℕ) → slice_index sums v ≡ 0
  pub childless : (s : ℕ) → child_at child s ≡ None
  pub mateless : (s : ℕ) → mate_at mate s ≡ None
  pub bases : (s : ℕ) → s < 2 * n → slice_index base s ≡ s

pub replicate_all : {A : Type 0} (n k : ℕ) (a : A) → get_or (replicate n a) k a ≡ a
replicate_all zero k a = refl
replicate_all (suc n) zero a = refl
replicate_all (suc n) (suc k) a = replicate_all n k a

same_node : (n : ℕ) (held : List Bool) → ((s v : ℕ) → v < n → s ≢ v → holds n held s v ≡ false) → (s v : ℕ) → v < n → holds n held s v ≡ true → s ≡ v
same_node n held others s v v_in on = elim (cases_eq s v) [
  | inl same ↦ same
  | inr other ↦ absurd (false≢true (sym (others s v v_in other) ∙ on))
]

used_single : (n s : ℕ) (o : Option ℕ) → o ≡ None → (ltb s n || is_some o) ≡ true → s < n
used_single n s o none used = elim (cases_lt s n) [
  | inl less ↦ less
  | inr more ↦ absurd (false≢true (sym (ap (λ x. x || is_some o) (le-ltb s n more) ∙ ap (λ x. is_some x) none) ∙ used))
]

unused_slot : (n s : ℕ) (o : Option ℕ) → (ltb s n || is_some o) ≡ false → n ≤ s
unused_slot n s o unused = elim (cases_lt s n) [
  | inl less ↦ absurd (false≢true (sym unused ∙ ap (λ x. x || is_some o) (lt-ltb s n less)))
  | inr more ↦ more
]

weightless_term : (b : Bool) (x : ℕ) → x ≡ 0 → cond b x 0 ≡ 0
weightless_term true x none = none
weightless_term false x none = refl

one_member : (n : ℕ) (held : List Bool) (s : ℕ) → s < n → holds n held s s ≡ true → ((v : ℕ) → v < n → s ≢ v → holds n held s v ≡ false) → members n (holds n held s) ≡ 1
one_member n held s s_in own others =
    total-only n (λ v. cond (holds n held s v) 1 0) s s_in (λ v v_in other. ap (λ b. cond b 1 0) (others v v_in (λ e. other (sym e))))
    ∙ ap (λ b. cond b 1 0) own

single_sets : (n : ℕ) (held : List Bool) (halves top sums : List ℕ) (child : List (Option ℕ)) (mate : List (Option Pair)) (base : List ℕ) → AreSingles n held halves top sums child mate base →
    AreSets n held halves child
single_sets n held halves top sums child mate base a = record {
  odd = λ s s_in used.
      let s_low = used_single n s (child_at child s) (a.childless s) used in
      ap (λ x. x % 2) (one_member n held s s_low (a.own s s_low) (λ v v_in other. a.others s v v_in other));
  laminar = λ s t s_in t_in other. inr (inr (λ v v_in on.
      a.others t v v_in (λ e. other (same_node n held a.others s v v_in on ∙ sym e))));
  distinct = λ s t s_in t_in s_used t_used other same.
      let s_low = used_single n s (child_at child s) (a.childless s) s_used in
      false≢true (sym (a.others t s s_low (λ e. other (sym e))) ∙ sym (same s s_low) ∙ a.own s s_low);
  empty = λ s v s_in v_in unused.
      let high = unused_slot n s (child_at child s) unused in
      a.others s v v_in (λ e. absurd (omega (arith, high, e, v_in)));
  weightless = λ s s_in unused. a.weightless s;
}

single_tops : (n : ℕ) (held : List Bool) (halves top sums : List ℕ) (child : List (Option ℕ)) (mate : List (Option Pair)) (base : List ℕ) → AreSingles n held halves top sums child mate base →
    AreTops n held top
single_tops n held halves top sums child mate base a = record {
  top_in = λ v v_in. omega (arith, a.tops v v_in, v_in);
  own = λ v v_in. ap (λ s. holds n held s v) (a.tops v v_in) ∙ a.own v v_in;
  inside = λ s v w s_in v_in w_in on_v on_w.
      a.tops v v_in ∙ sym (same_node n held a.others s v v_in on_v) ∙ same_node n held a.others s w w_in on_w ∙ sym (a.tops w w_in);
}

single_weights : (costs : Costs) (n : ℕ) (held : List Bool) (halves top sums : List ℕ) (child : List (Option ℕ)) (mate : List (Option Pair)) (base : List ℕ) → AreSingles n held halves top sums child mate base →
    AreWeights costs n held halves top sums
single_weights costs n held halves top sums child mate base a = record {
  kept = λ v v_in. a.sumless v ∙ sym (total-none (2 * n) (λ s. cond (holds n held s v) (slice_index halves s) 0) (λ s s_in. weightless_term (holds n held s v) (slice_index halves s) (a.weightless s)));
  packing = λ u v u_in v_in other.
      let none : between n held halves u v ≡ 0 =
      total-none (2 * n) (λ s. cond (parts (holds n held s u) (holds n held s v)) (slice_index halves s) 0)
      (λ s s_in. weightless_term (parts (holds n held s u) (holds n held s v)) (slice_index halves s) (a.weightless s)) in
      omega (arith, none);
  parity = λ u v u_in v_in same. omega (arith, a.sumless u, a.sumless v);
}

single_cycles : (costs : Costs) (n : ℕ) (held : List Bool) (halves top sums : List ℕ) (child : List (Option ℕ)) (mate : List (Option Pair)) (base next : List ℕ) (link : List Pair) →
    AreSingles n held halves top sums child mate base → AreCycles costs n held halves child next link
single_cycles costs n held halves top sums child mate base next link a = record {
  single = λ s v s_in v_in on. same_node n held a.others s v v_in on;
  no_child = λ s s_in. a.childless s;
  larger = λ s s_in. subst (λ o. IfSome o (IsCycle costs n held halves child next link s)) (sym (a.childless s)) tt;
}

single_bases : (n : ℕ) (held : List Bool) (halves top sums : List ℕ) (child : List (Option ℕ)) (mate : List (Option Pair)) (base : List ℕ) → AreSingles n held halves top sums child mate base →
    AreBased n held child base
single_bases n held halves top sums child mate base a = record {
  base_in = λ s s_in used. omega (arith, a.bases s s_in, used_single n s (child_at child s) (a.childless s) used);
  own = λ s s_in used. ap (λ v. holds n held s v) (a.bases s s_in) ∙ a.own s (used_single n s (child_at child s) (a.childless s) used);
  claimed = λ s s_in used slot.
      let low = used_single n (n + slice_index base s) (child_at child (n + slice_index base s)) (a.childless (n + slice_index base s)) slot in
      absurd (omega (arith, low));
}

pub begun : (costs : Costs) (state : State) → IsShape costs state →
    AreSingles state.size state.held.items state.halves.items state.top.items state.sums.items state.child.items state.mate.items state.base.items → IsBetween costs state
begun costs state shape a =
    let n = state.size in
    let held = state.held.items in
    let halves = state.halves.items in
    let top = state.top.items in
    let sums = state.sums.items in
    let child = state.child.items in
    let mate = state.mate.items in
    let base = state.base.items in
    record {
      shape = shape;
      sets = single_sets n held halves top sums child mate base a;
      tops = single_tops n held halves top sums child mate base a;
      weights = single_weights costs n held halves top sums child mate base a;
      cycles = single_cycles costs n held halves top sums child mate base state.next.items state.link.items a;
      matched = λ v v_in. subst (λ o. IfSome o (IsMatched costs n top sums mate (slice_index top v))) (sym (a.mateless (slice_index top v))) tt;
      based = single_bases n held halves top sums child mate base a;
    }
