-- What leaves a side of the nodes, less what enters it, is what flows from the nodes of the side.
use Rattle.std.proofs.Common.{◌≡◌, ℕ, zero, suc, ◌+◌, ◌<◌, ◌≤◌, Bool, true, false, not, ◌&&◌, cond, ltb, List, length, get_or, refl, sym, ap, ◌∙◌, arith, inl, inr}
use Rattle.std.proofs.lemmas.Bool.{cases_eq, cases_lt, cases_order, eq-eqb, ne_eqb, lt-ltb, le-ltb, false≢true}
use Rattle.std.proofs.lemmas.List.{get_or_past}
use Rattle.flow_cut.specs.declared.network.Arc.{Arc}
use Rattle.flow_cut.specs.Flows.{flow_on, inflow, outflow, IsFlow, IsSide, is_on, leaves, cut_room, no_arc}
use Rattle.flow_cut.specs.Laws.{AreBest}
use Rattle.flow_cut.specs.Residual.{at_node}
use Rattle.flow_cut.proofs.OnArcs.{same_tests, no_test, two_and_two, flow_below, flow_on-le, flow_on-full, flow_on-empty}

-- the value counts once the numbers below n hold s
joins_here : (value : ℕ) (on : Bool) → on ≡ true → cond true value 0 ≡ cond false value 0 + cond on (cond true value 0) 0
joins_here value true there = omega arith
joins_here value false there = absurd (false≢true there)

joins_not : (value : ℕ) (on earlier : Bool) → cond earlier value 0 ≡ cond earlier value 0 + cond on (cond false value 0) 0
joins_not value true earlier = omega arith
joins_not value false earlier = omega arith

joins : (s n value : ℕ) (on : Bool) → (s ≡ n → on ≡ true) → cond (ltb s (suc n)) value 0 ≡ cond (ltb s n) value 0 + cond on (at_node s value n) 0
joins s n value on there = elim (cases_order s n) [
  | inl same ↦ rw (same, lt-ltb n (suc n) (omega arith), le-ltb n n (omega arith), eq-eqb n n refl) (joins_here value on (there same))
  | inr (inl less) ↦ rw (lt-ltb s (suc n) (omega arith), lt-ltb s n less, ne_eqb s n (λ same. omega arith)) (joins_not value on true)
  | inr (inr more) ↦ rw (le-ltb s (suc n) (omega arith), le-ltb s n (omega arith), ne_eqb s n (λ same. omega arith)) (joins_not value on false)
]

-- a node of the side adds as much on the left as on the right
adds : (b : Bool) (into at out : ℕ) → (b ≡ true → into + at ≡ out) → cond b into 0 + cond b at 0 ≡ cond b out 0
adds true into at out same = same refl
adds false into at out same = refl

below_zero : (on : ℕ → Bool) (m : ℕ) → (on m && ltb m 0) ≡ false
below_zero on m = rw (le-ltb m 0 (omega arith)) (and_false (on m))
  where
    and_false : (b : Bool) → (b && false) ≡ false
    and_false true = refl
    and_false false = refl

-- what flows into the nodes of a side below n, with the value from s on, flows out of them
net_below : (on : ℕ → Bool) (s value : ℕ) (arcs : List Arc) (flows : List ℕ) →
    ((v : ℕ) → on v ≡ true → inflow arcs flows v + at_node s value v ≡ outflow arcs flows v) → on s ≡ true → (n : ℕ) →
    flow_on (λ arc. on arc.to && ltb arc.to n) arcs flows + cond (ltb s n) value 0 ≡ flow_on (λ arc. on arc.from && ltb arc.from n) arcs flows
net_below on s value arcs flows each there zero =
    rw (le-ltb s 0 (omega arith))
    (omega (
      arith,
      no_test (λ arc. on arc.to && ltb arc.to 0) (λ arc. below_zero on arc.to) arcs flows,
      no_test (λ arc. on arc.from && ltb arc.from 0) (λ arc. below_zero on arc.from) arcs flows,
    ))
net_below on s value arcs flows each there (suc n) =
    omega (
      arith,
      flow_below on (λ arc. arc.to) n arcs flows,
      flow_below on (λ arc. arc.from) n arcs flows,
      joins s n value (on n) (λ same. rw (sym same) there),
      adds (on n) (inflow arcs flows n) (at_node s value n) (outflow arcs flows n) (each n),
      net_below on s value arcs flows each there n,
    )

-- the side has no node from some number on
all_below : (on : ℕ → Bool) (n : ℕ) → ((v : ℕ) → n ≤ v → on v ≡ false) → (m : ℕ) → (on m && ltb m n) ≡ on m
all_below on n none m = elim (cases_lt m n) [
  | inl less ↦ rw (lt-ltb m n less) (and_true (on m))
  | inr more ↦ rw (none m more) refl
]
  where
    and_true : (b : Bool) → (b && true) ≡ b
    and_true true = refl
    and_true false = refl

in_and_out : (from to : Bool) (x : ℕ) → cond to x 0 + cond (from && not to) x 0 ≡ cond from x 0 + cond (to && not from) x 0
in_and_out true true x = omega arith
in_and_out true false x = omega arith
in_and_out false true x = omega arith
in_and_out false false x = omega arith

-- the arc leads to the side from the other nodes
abbrev pub enters : List Bool → Arc → Bool
enters side arc = is_on side arc.to && not (is_on side arc.from)

-- no node past the entries of a side is on it
none_past : (side : List Bool) (v : ℕ) → length side + 1 ≤ v → is_on side v ≡ false
none_past side zero far = refl
none_past side (suc k) far = get_or_past side k false (omega arith)

-- what leaves a side is what enters it, and the value
pub leaves_more : (side : List Bool) (s value : ℕ) (arcs : List Arc) (flows : List ℕ) →
    ((v : ℕ) → is_on side v ≡ true → inflow arcs flows v + at_node s value v ≡ outflow arcs flows v) → is_on side s ≡ true →
    flow_on (leaves side) arcs flows ≡ flow_on (enters side) arcs flows + value
leaves_more side s value arcs flows each there =
    let n = length side + 1 in
    let none = none_past side in
    let s_below : s < n = elim (cases_lt s n) [ inl less ↦ less | inr more ↦ absurd (false≢true (sym (none s more) ∙ there)) ] in
    omega (
      arith,
      net_below (is_on side) s value arcs flows each there n,
      same_tests (λ arc. is_on side arc.to && ltb arc.to n) (λ arc. is_on side arc.to) (λ arc. all_below (is_on side) n none arc.to) arcs flows,
      same_tests (λ arc. is_on side arc.from && ltb arc.from n) (λ arc. is_on side arc.from) (λ arc. all_below (is_on side) n none arc.from) arcs flows,
      two_and_two (λ arc. is_on side arc.to) (leaves side) (λ arc. is_on side arc.from) (enters side) (λ arc x. in_and_out (is_on side arc.from) (is_on side arc.to) x) arcs flows,
      ap (λ b. cond b value 0) (lt-ltb s n s_below),
    )

-- at the nodes of a side a flow brings the value to s alone
at_side : (arcs : List Arc) (s t value : ℕ) (flows : List ℕ) (side : List Bool) → IsFlow arcs s t value flows → IsSide side s t →
    (v : ℕ) → is_on side v ≡ true → inflow arcs flows v + at_node s value v ≡ outflow arcs flows v
at_side arcs s t value flows side flow cut v on = elim (cases_eq v s) [
  | inl same ↦ rw (same, eq-eqb s s refl) (let e = flow.value_is in omega arith)
  | inr other ↦ rw (ne_eqb s v (λ same. other (sym same))) (let e = flow.balanced v other (λ same. false≢true (sym cut.target ∙ (rw (sym same) on))) in omega arith)
]

pub cut_bounds : (arcs : List Arc) (s t value : ℕ) (flows : List ℕ) (side : List Bool) → IsFlow arcs s t value flows → IsSide side s t → value ≤ cut_room arcs side
cut_bounds arcs s t value flows side flow cut =
    omega (
      arith,
      leaves_more side s value arcs flows (at_side arcs s t value flows side flow cut) cut.source,
      flow_on-le (leaves side) arcs flows flow.rooms.within,
    )

pub equal_best : (arcs : List Arc) (s t value : ℕ) (flows : List ℕ) (side : List Bool) → IsFlow arcs s t value flows → IsSide side s t → cut_room arcs side ≡ value → AreBest arcs s t value side
equal_best arcs s t value flows side flow cut same = record {
  greatest = λ other others is. omega (arith, cut_bounds arcs s t other others side is cut);
  least = λ other is. omega (arith, cut_bounds arcs s t value flows other flow is);
}

-- where all that leave a side are full, and all that enter it are empty, the rooms that leave it are the value
pub full_cut : (arcs : List Arc) (s t value : ℕ) (flows : List ℕ) (side : List Bool) → IsFlow arcs s t value flows → IsSide side s t →
    ((i : ℕ) → i < length arcs → leaves side (get_or arcs i no_arc) ≡ true → get_or flows i 0 ≡ (get_or arcs i no_arc).room) →
    ((i : ℕ) → i < length arcs → enters side (get_or arcs i no_arc) ≡ true → get_or flows i 0 ≡ 0) →
    cut_room arcs side ≡ value
full_cut arcs s t value flows side flow cut full empty =
    omega (
      arith,
      leaves_more side s value arcs flows (at_side arcs s t value flows side flow cut) cut.source,
      flow_on-full (leaves side) arcs flows flow.rooms.one_each full,
      flow_on-empty (enters side) arcs flows empty,
    )
