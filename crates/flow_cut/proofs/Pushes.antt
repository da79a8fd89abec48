-- One amount across one residual arc.
use Rattle.std.proofs.Common.{◌≡◌, ℕ, ◌+◌, ◌-◌, ◌^◌, ◌<◌, ◌≤◌, Bool, true, false, cond, eqb, List, length, get_or, set, ◌∙◌, arith, inl, inr}
use Rattle.std.specs.List.{All}
use Rattle.std.proofs.lemmas.Bool.{cases_eq}
use Rattle.std.proofs.lemmas.List.{length-set, get_or-set_same, get_or-set_other}
use Rattle.flow_cut.specs.declared.network.Arc.{Arc}
use Rattle.flow_cut.specs.declared.residual.ResidualArc.{ResidualArc}
use Rattle.flow_cut.specs.Flows.{flow_on, HasFineRoom, IsWithinRooms, no_arc}
use Rattle.flow_cut.specs.Residual.{IsPushed, left_on}
use Rattle.flow_cut.proofs.OnArcs.{flow_on-set, part_sum}

-- a flow that changes to one within the room
set_within : (arcs : List Arc) (flows : List ℕ) (i y : ℕ) → i < length arcs → IsWithinRooms arcs flows → y ≤ (get_or arcs i no_arc).room → IsWithinRooms arcs (set flows i y)
set_within arcs flows i y here rooms small = record {
  one_each = length-set flows i y ∙ rooms.one_each;
  within = λ k. elim (cases_eq k i) [
    | inl same ↦ let there : i < length flows = omega (arith, rooms.one_each) in rw (same, get_or-set_same flows i y 0 there) small
    | inr other ↦ rw (get_or-set_other flows i k y 0 other) (rooms.within k)
  ];
}

-- a flow that rises or falls by an amount, for one test
rises : (test : Arc → Bool) (arcs : List Arc) (flows : List ℕ) (i d : ℕ) → i < length arcs → i < length flows →
    flow_on test arcs (set flows i (get_or flows i 0 + d)) ≡ flow_on test arcs flows + cond (test (get_or arcs i no_arc)) d 0
rises test arcs flows i d here there =
    omega (arith, flow_on-set test arcs flows i (get_or flows i 0 + d) here there, part_sum (test (get_or arcs i no_arc)) (get_or flows i 0) d)

falls_by : (b : Bool) (x d : ℕ) → d ≤ x → cond b x 0 ≡ cond b (x - d) 0 + cond b d 0
falls_by true x d small = omega arith
falls_by false x d small = omega arith

falls : (test : Arc → Bool) (arcs : List Arc) (flows : List ℕ) (i d : ℕ) → i < length arcs → i < length flows → d ≤ get_or flows i 0 →
    flow_on test arcs (set flows i (get_or flows i 0 - d)) + cond (test (get_or arcs i no_arc)) d 0 ≡ flow_on test arcs flows
falls test arcs flows i d here there small =
    omega (arith, flow_on-set test arcs flows i (get_or flows i 0 - d) here there, falls_by (test (get_or arcs i no_arc)) (get_or flows i 0) d small)

pub pushed_forward : (arcs : List Arc) (flows : List ℕ) (r : ResidualArc) (d : ℕ) → r.forward ≡ true → r.arc < length arcs → IsWithinRooms arcs flows →
    d ≤ left_on arcs flows r → IsPushed arcs r d flows (set flows r.arc (get_or flows r.arc 0 + d))
pushed_forward arcs flows r d way here rooms fits =
    let i = r.arc in
    let a = get_or arcs i no_arc in
    let there : i < length flows = omega (arith, rooms.one_each) in
    let room : d ≤ a.room - get_or flows i 0 = rw way at fits in
    record {
      rooms = set_within arcs flows i (get_or flows i 0 + d) here rooms (omega (arith, rooms.within i));
      moved = λ v. rw way (omega (arith, rises (λ arc. eqb arc.to v) arcs flows i d here there, rises (λ arc. eqb arc.from v) arcs flows i d here there));
      others = λ k other. get_or-set_other flows i k (get_or flows i 0 + d) 0 other;
    }

pub pushed_backward : (arcs : List Arc) (flows : List ℕ) (r : ResidualArc) (d : ℕ) → r.forward ≡ false → r.arc < length arcs → IsWithinRooms arcs flows →
    d ≤ left_on arcs flows r → IsPushed arcs r d flows (set flows r.arc (get_or flows r.arc 0 - d))
pushed_backward arcs flows r d way here rooms fits =
    let i = r.arc in
    let a = get_or arcs i no_arc in
    let there : i < length flows = omega (arith, rooms.one_each) in
    let small : d ≤ get_or flows i 0 = rw way at fits in
    record {
      rooms = set_within arcs flows i (get_or flows i 0 - d) here rooms (omega (arith, rooms.within i));
      moved = λ v. rw way (omega (arith, falls (λ arc. eqb arc.to v) arcs flows i d here there small, falls (λ arc. eqb arc.from v) arcs flows i d here there small));
      others = λ k other. get_or-set_other flows i k (get_or flows i 0 - d) 0 other;
    }

pub sum_fits : (arcs : List Arc) (flows : List ℕ) (r : ResidualArc) (d : ℕ) → r.forward ≡ true → r.arc < length arcs → IsWithinRooms arcs flows → All HasFineRoom arcs →
    d ≤ left_on arcs flows r → get_or flows r.arc 0 + d < 2 ^ 64
sum_fits arcs flows r d way here rooms fine fits =
    let room : d ≤ (get_or arcs r.arc no_arc).room - get_or flows r.arc 0 = rw way at fits in
    omega (arith, rooms.within r.arc, fine r.arc no_arc here)
