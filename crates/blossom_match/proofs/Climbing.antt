-- Ways up the tree.
use Rattle.std.proofs.Common.{◌≡◌, ◌≢◌, ◌⊎◌, ℕ, zero, suc, ◌+◌, ◌<◌, ◌≤◌, cond, List, Option, Some, None, is_some, IfSome, IsSomeAnd, length, slice_index, set, refl, sym, subst, ap, ◌∙◌, arith, inl, inr}
use Rattle.std.proofs.lemmas.Bool.{cases_eq, cases_lt}
use Rattle.std.proofs.lemmas.List.{get_or-set_same, get_or-set_other, get_or_past}
use Rattle.blossom_match.specs.declared.state.Pair.{Pair}
use Rattle.blossom_match.specs.declared.ways.Join.{Join}
use Rattle.blossom_match.specs.Matching.{total}
use Rattle.blossom_match.specs.Views.{link_at, turned, no_pair}
use Rattle.blossom_match.specs.Ways.{IsWayUp, IsWay, IsMarking, IsTrail, IsLinkedDown, IsLinkedUp, IsFork, IsClosed, above, climb, way_at, unmarked}
use Rattle.blossom_match.proofs.Measuring.{total-less}
use Rattle.blossom_match.proofs.Totals.{total-le}

pub way_cases : (o : Option ℕ) → (o ≡ None) ⊎ ((k : ℕ) × (o ≡ Some k))
way_cases None = inl refl
way_cases (Some k) = inr (k, refl)

pub some_number : (j k : ℕ) → Some j ≡ Some k → j ≡ k
some_number j k e = cc

pub none_number : (k : ℕ) → None ≡ Some k → ⊥
none_number k e = cc

ones : (n : ℕ) → total n (λ s. 1) ≡ n
ones zero = refl
ones (suc n) = omega (arith, ones n)

at_most_one : (o : Option ℕ) → cond {A = ℕ} (is_some o) 0 1 ≤ 1
at_most_one None = omega arith
at_most_one (Some k) = omega arith

-- one mark more
fewer : (slots : ℕ) (way : List (Option ℕ)) (node steps : ℕ) → node < slots → node < length way → way_at way node ≡ None → unmarked slots (set way node (Some steps)) < unmarked slots way
fewer slots way node steps node_in in_way none =
    let at : cond {A = ℕ} (is_some (way_at (set way node (Some steps)) node)) 0 1 ≡ 0 = ap (λ o. cond {A = ℕ} (is_some o) 0 1) (get_or-set_same way node (Some steps) None in_way) in
    let was : cond {A = ℕ} (is_some (way_at way node)) 0 1 ≡ 1 = ap (λ o. cond {A = ℕ} (is_some o) 0 1) none in
    total-less slots (λ s. cond (is_some (way_at (set way node (Some steps)) s)) 0 1) (λ s. cond (is_some (way_at way s)) 0 1) node
    (λ s s_in. elim (cases_eq s node) [
      | inl same ↦ (let here : cond {A = ℕ} (is_some (way_at (set way node (Some steps)) s)) 0 1 ≡ 0 = ap (λ x. cond {A = ℕ} (is_some (way_at (set way node (Some steps)) x)) 0 1) same ∙ at in omega (arith, here))
      | inr other ↦ (let alike = ap (λ o. cond {A = ℕ} (is_some o) 0 1) (get_or-set_other way node s (Some steps) None other) in omega (arith, alike))
    ]) node_in (omega (arith, at, was))

pub marked_first : (top : List ℕ) (entry : List Pair) (slots from root : ℕ) (way : List (Option ℕ)) → IsWayUp top entry slots from root → slots ≡ length way → ((s : ℕ) → way_at way s ≡ None) →
    IsMarking top entry slots from root (set way from (Some 0)) from 0
marked_first top entry slots from root way up long none =
    let from_in = up.in_slots from up.begins in
    let at = get_or-set_same way from (Some 0) None (omega (arith, from_in, long)) in
    let off : (s k : ℕ) → way_at (set way from (Some 0)) s ≡ Some k → s ≡ from = λ s k is. elim (cases_eq s from) [
      | inl same ↦ same
      | inr other ↦ absurd (none_number k (sym (get_or-set_other way from s (Some 0) None other ∙ none s) ∙ is))
    ] in
    record {
      up = up;
      at = refl;
      here = up.begins;
      marks = λ k below. (let e : k ≡ 0 = omega (arith, below) in subst (λ j. way_at (set way from (Some 0)) (climb top entry j from) ≡ Some j) (sym e) at);
      only = λ s k is.
          let same = off s k is in
          let e : k ≡ 0 = some_number k 0 (sym is ∙ ap (λ x. way_at (set way from (Some 0)) x) same ∙ at) in
          (omega (arith, e), ap (λ j. climb top entry j from) e ∙ sym same);
      higher = λ s k is. (let e = ap up.height (off s k is) in omega (arith, e));
      count =
          let less = fewer slots way from 0 from_in (omega (arith, from_in, long)) (none from) in
          let most = total-le slots (λ s. cond (is_some (way_at way s)) 0 1) (λ s. 1) (λ s s_in. at_most_one (way_at way s)) in
          omega (arith, less, most, ones slots);
    }

-- the node above is not marked yet
pub above_unmarked : (top : List ℕ) (entry : List Pair) (slots from root : ℕ) (way : List (Option ℕ)) (node steps : ℕ) → IsMarking top entry slots from root way node steps → node ≢ root →
    way_at way (above top entry node) ≡ None
above_unmarked top entry slots from root way node steps m other = elim (way_cases (way_at way (above top entry node))) [
  | inl none ↦ none
  | inr some ↦ absurd (omega (arith, m.higher (above top entry node) some.0 some.1, m.up.lower node m.here other))
]

pub marked_more : (top : List ℕ) (entry : List Pair) (slots from root : ℕ) (way : List (Option ℕ)) (node steps : ℕ) → slots ≡ length way → IsMarking top entry slots from root way node steps → node ≢ root →
    IsMarking top entry slots from root (set way (above top entry node) (Some (steps + 1))) (above top entry node) (steps + 1) × (unmarked slots (set way (above top entry node) (Some (steps + 1))) < unmarked slots way)
marked_more top entry slots from root way node steps long m other =
    let here = m.up.climbs node m.here other in
    let up : ℕ = above top entry node in
    let up_in = m.up.in_slots (above top entry node) here in
    let none = above_unmarked top entry slots from root way node steps m other in
    let at = get_or-set_same way (above top entry node) (Some (steps + 1)) None (omega (arith, up_in, long)) in
    let next : climb top entry (steps + 1) from ≡ above top entry node =
    (let e : steps + 1 ≡ suc steps = omega arith in ap (λ j. climb top entry j from) e ∙ ap (λ x. above top entry x) m.at) in
    let less = fewer slots way (above top entry node) (steps + 1) up_in (omega (arith, up_in, long)) none in (
      record {
        up = m.up;
        at = next;
        here = here;
        marks = λ k below. elim (cases_eq k (steps + 1)) [
          | inl same ↦ subst (λ j. way_at (set way (above top entry node) (Some (steps + 1))) (climb top entry j from) ≡ Some j) (sym same)
              (ap (λ x. way_at (set way (above top entry node) (Some (steps + 1))) x) next ∙ at)
          | inr differs ↦
              let old = m.marks k (omega (arith, differs, below)) in
              get_or-set_other way (above top entry node) (climb top entry k from) (Some (steps + 1)) None
              (λ e. none_number k (sym none ∙ ap (λ x. way_at way x) (sym e) ∙ old)) ∙ old
        ];
        only = λ s k is. elim (cases_eq s (above top entry node)) [
          | inl same ↦
              let e : k ≡ steps + 1 = some_number k (steps + 1) (sym is ∙ ap (λ x. way_at (set way (above top entry node) (Some (steps + 1))) x) same ∙ at) in
              (omega (arith, e), ap (λ j. climb top entry j from) e ∙ next ∙ sym same)
          | inr differs ↦
              let old = m.only s k (sym (get_or-set_other way (above top entry node) s (Some (steps + 1)) None differs) ∙ is) in
              (omega (arith, old.0), old.1)
        ];
        higher = λ s k is. elim (cases_eq s (above top entry node)) [
          | inl same ↦ (let e = ap m.up.height same in omega (arith, e))
          | inr differs ↦
              let old = m.higher s k (sym (get_or-set_other way (above top entry node) s (Some (steps + 1)) None differs) ∙ is) in
              omega (arith, old, m.up.lower node m.here other)
        ];
        count = omega (arith, m.count, less);
      },
      less,
    )

pub marked_last : (top : List ℕ) (entry : List Pair) (slots from root : ℕ) (way : List (Option ℕ)) (node steps : ℕ) → IsMarking top entry slots from root way node steps → node ≡ root → IsWay top entry from root way
marked_last top entry slots from root way node steps m is = record { len = steps; ends = m.at ∙ is; marks = m.marks; only = m.only }

pub climb_on : (top : List ℕ) (entry : List Pair) (k from node : ℕ) → climb top entry k from ≡ node → climb top entry (k + 1) from ≡ above top entry node
climb_on top entry k from node is = let e : k + 1 ≡ suc k = omega arith in ap (λ j. climb top entry j from) e ∙ ap (λ x. above top entry x) is

pub down_more : (top : List ℕ) (entry : List Pair) (from steps k node slots : ℕ) (next next' : List ℕ) (link link' : List Pair) (pair : Pair) → IsTrail top entry slots from steps → k < steps →
    slots ≡ length next' → slots ≡ length link' → climb top entry k from ≡ node → pair ≡ turned (link_at entry node) →
    IsLinkedDown top entry from k next next' link link' → IsLinkedDown top entry from (k + 1) next (set next' (above top entry node) node) link (set link' (above top entry node) pair)
down_more top entry from steps k node slots next next' link link' pair t k_in next_len link_len is pair_is l =
    let up : climb top entry (suc k) from ≡ above top entry node = ap (λ x. above top entry x) is in
    let up_in : above top entry node < slots = subst (λ x. x < slots) up (t.in_slots (suc k) k_in) in
    let other : (j : ℕ) → j < k → climb top entry (suc j) from ≢ above top entry node = λ j less e. t.apart (suc j) (suc k) (omega (arith, less)) k_in (e ∙ sym up) in
    record {
      next_at = λ j below. elim (cases_eq j k) [
        | inl same ↦ subst (λ i. slice_index (set next' (above top entry node) node) (climb top entry (suc i) from) ≡ climb top entry i from) (sym same)
            (ap (λ x. slice_index (set next' (above top entry node) node) x) up ∙ get_or-set_same next' (above top entry node) node 0 (omega (arith, up_in, next_len)) ∙ sym is)
        | inr differs ↦
            let less : j < k = omega (arith, below, differs) in
            get_or-set_other next' (above top entry node) (climb top entry (suc j) from) node 0 (other j less) ∙ l.next_at j less
      ];
      link_at_it = λ j below. elim (cases_eq j k) [
        | inl same ↦ subst (λ i. link_at (set link' (above top entry node) pair) (climb top entry (suc i) from) ≡ turned (link_at entry (climb top entry i from))) (sym same)
            (ap (λ x. link_at (set link' (above top entry node) pair) x) up ∙ get_or-set_same link' (above top entry node) pair no_pair (omega (arith, up_in, link_len)) ∙ pair_is ∙ ap (λ x. turned (link_at entry x)) (sym is))
        | inr differs ↦
            let less : j < k = omega (arith, below, differs) in
            get_or-set_other link' (above top entry node) (climb top entry (suc j) from) pair no_pair (other j less) ∙ l.link_at_it j less
      ];
      next_off = λ s off.
          get_or-set_other next' (above top entry node) s node 0 (λ e. off k (omega arith) (e ∙ sym up)) ∙ l.next_off s (λ j less. off j (omega (arith, less)));
      link_off = λ s off.
          get_or-set_other link' (above top entry node) s pair no_pair (λ e. off k (omega arith) (e ∙ sym up)) ∙ l.link_off s (λ j less. off j (omega (arith, less)));
    }

pub up_more : (top : List ℕ) (entry : List Pair) (from steps k node slots : ℕ) (next next' : List ℕ) (link link' : List Pair) (pair : Pair) → IsTrail top entry slots from steps → k < steps →
    slots ≡ length next' → slots ≡ length link' → climb top entry k from ≡ node → pair ≡ link_at entry node →
    IsLinkedUp top entry from k next next' link link' → IsLinkedUp top entry from (k + 1) next (set next' node (above top entry node)) link (set link' node pair)
up_more top entry from steps k node slots next next' link link' pair t k_in next_len link_len is pair_is l =
    let up : climb top entry (suc k) from ≡ above top entry node = ap (λ x. above top entry x) is in
    let node_in : node < slots = subst (λ x. x < slots) is (t.in_slots k (omega (arith, k_in))) in
    let other : (j : ℕ) → j < k → climb top entry j from ≢ node = λ j less e. t.apart j k less (omega (arith, k_in)) (e ∙ sym is) in
    record {
      next_at = λ j below. elim (cases_eq j k) [
        | inl same ↦ subst (λ i. slice_index (set next' node (above top entry node)) (climb top entry i from) ≡ climb top entry (suc i) from) (sym same)
            (ap (λ x. slice_index (set next' node (above top entry node)) x) is ∙ get_or-set_same next' node (above top entry node) 0 (omega (arith, node_in, next_len)) ∙ sym up)
        | inr differs ↦
            let less : j < k = omega (arith, below, differs) in
            get_or-set_other next' node (climb top entry j from) (above top entry node) 0 (other j less) ∙ l.next_at j less
      ];
      link_at_it = λ j below. elim (cases_eq j k) [
        | inl same ↦ subst (λ i. link_at (set link' node pair) (climb top entry i from) ≡ link_at entry (climb top entry i from)) (sym same)
            (ap (λ x. link_at (set link' node pair) x) is ∙ get_or-set_same link' node pair no_pair (omega (arith, node_in, link_len)) ∙ pair_is ∙ ap (λ x. link_at entry x) (sym is))
        | inr differs ↦
            let less : j < k = omega (arith, below, differs) in
            get_or-set_other link' node (climb top entry j from) pair no_pair (other j less) ∙ l.link_at_it j less
      ];
      next_off = λ s off.
          get_or-set_other next' node s (above top entry node) 0 (λ e. off k (omega arith) (e ∙ sym is)) ∙ l.next_off s (λ j less. off j (omega (arith, less)));
      link_off = λ s off.
          get_or-set_other link' node s pair no_pair (λ e. off k (omega arith) (e ∙ sym is)) ∙ l.link_off s (λ j less. off j (omega (arith, less)));
    }

-- down, across and up
pub closed_by : (top : List ℕ) (entry : List Pair) (slots u v first second a b : ℕ) (next next₁ next₃ : List ℕ) (link link₁ link₃ : List Pair) (pair : Pair) →
    IsFork top entry slots first second a b → pair ≡ record { inside = u; outside = v } → slots ≡ length next₁ → slots ≡ length link₁ →
    IsLinkedDown top entry first a next next₁ link link₁ → IsLinkedUp top entry second b (set next₁ first second) next₃ (set link₁ first pair) link₃ →
    IsClosed top entry u v first second a b next next₃ link link₃
closed_by top entry slots u v first second a b next next₁ next₃ link link₁ link₃ pair f pair_is next_len link_len down up =
    let first_in : first < slots = f.one.in_slots 0 (omega arith) in
    let low : (k : ℕ) → k < a → climb top entry (suc k) first ≢ first = λ k k_in e. f.one.apart 0 (suc k) (omega arith) k_in (sym e) in
    let cross : (k j : ℕ) → k ≤ a → j < b → climb top entry k first ≢ climb top entry j second = f.cross in
    record {
      down_next = λ k k_in.
          up.next_off (climb top entry (suc k) first) (λ j j_in. cross (suc k) j k_in j_in)
          ∙ get_or-set_other next₁ first (climb top entry (suc k) first) second 0 (low k k_in) ∙ down.next_at k k_in;
      down_link = λ k k_in.
          up.link_off (climb top entry (suc k) first) (λ j j_in. cross (suc k) j k_in j_in)
          ∙ get_or-set_other link₁ first (climb top entry (suc k) first) pair no_pair (low k k_in) ∙ down.link_at_it k k_in;
      across_next = up.next_off first (λ j j_in. cross 0 j (omega arith) j_in) ∙ get_or-set_same next₁ first second 0 (omega (arith, first_in, next_len));
      across_link = up.link_off first (λ j j_in. cross 0 j (omega arith) j_in) ∙ get_or-set_same link₁ first pair no_pair (omega (arith, first_in, link_len)) ∙ pair_is;
      up_next = up.next_at;
      up_link = up.link_at_it;
      next_off = λ s off_one off_other.
          up.next_off s off_other ∙ get_or-set_other next₁ first s second 0 (off_one 0 (omega arith)) ∙ down.next_off s (λ k k_in. off_one (suc k) k_in);
      link_off = λ s off_one off_other.
          up.link_off s off_other ∙ get_or-set_other link₁ first s pair no_pair (off_one 0 (omega arith)) ∙ down.link_off s (λ k k_in. off_one (suc k) k_in);
    }

pub above_in : (top : List ℕ) (entry : List Pair) (from steps k node slots : ℕ) → IsTrail top entry slots from steps → k < steps → climb top entry k from ≡ node → above top entry node < slots
above_in top entry from steps k node slots t k_in is = subst (λ x. x < slots) (ap (λ x. above top entry x) is) (t.in_slots (suc k) k_in)

pub marked_in : (top : List ℕ) (entry : List Pair) (slots from root : ℕ) (way : List (Option ℕ)) (node steps : ℕ) → IsMarking top entry slots from root way node steps → node ≢ root → above top entry node < slots
marked_in top entry slots from root way node steps m other = m.up.in_slots (above top entry node) (m.up.climbs node m.here other)

pub one_less : (a r : Option Join) (j : ℕ) → IfSome a (λ x. IsSomeAnd r (λ t. t.one ≤ x.one)) → IsSomeAnd a (λ t. t.one ≤ j) → IsSomeAnd r (λ t. t.one ≤ j)
one_less None r j less has = absurd has
one_less (Some x) None j less has = absurd less
one_less (Some x) (Some t) j less has = omega (arith, less, has)

pub join_is : (one other : List (Option ℕ)) (s : ℕ) (o : Option Join) → IfSome o (λ t. (t.node ≡ s) × (way_at one s ≡ Some t.one) × (way_at other s ≡ Some t.other)) →
    IfSome o (λ t. (way_at one t.node ≡ Some t.one) × (way_at other t.node ≡ Some t.other))
join_is one other s None h = tt
join_is one other s (Some t) h = (ap (λ x. way_at one x) h.0 ∙ h.1, ap (λ x. way_at other x) h.0 ∙ h.2)

pub either_join : (r a b : Option Join) (P : Join → Type 0) → (r ≡ a) ⊎ (r ≡ b) → IfSome a P → IfSome b P → IfSome r P
either_join r a b P (inl is) first second = subst (λ o. IfSome o P) (sym is) first
either_join r a b P (inr is) first second = subst (λ o. IfSome o P) (sym is) second

pub way_in : (way : List (Option ℕ)) (s k : ℕ) → way_at way s ≡ Some k → s < length way
way_in way s k is = elim (cases_lt s (length way)) [
  | inl low ↦ low
  | inr high ↦ absurd (none_number k (sym (get_or_past way s None high) ∙ is))
]
