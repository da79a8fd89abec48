-- Ways back to the source, and amounts that are sent over them.
use Rattle.std.proofs.Common.{◌≡◌, ◌≢◌, ℕ, zero, suc, ◌+◌, ◌^◌, ◌<◌, ◌≤◌, Bool, true, false, cond, eqb, List, length, get_or, slice_index, refl, sym, ap, ◌∙◌, arith, inl, inr}
use Rattle.std.proofs.lemmas.Bool.{cases_lt, eq-eqb, ne_eqb}
use Rattle.std.proofs.lemmas.List.{get_or_past, get_or_read}
use Rattle.std.proofs.lemmas.List.Sums.{sum_by-le, sum_by-le-sum_by}
use Rattle.flow_cut.specs.declared.network.Arc.{Arc}
use Rattle.flow_cut.specs.declared.residual.ResidualArc.{ResidualArc}
use Rattle.flow_cut.specs.Flows.{IsNetwork, no_arc, room_limit}
use Rattle.flow_cut.specs.Residual.{Brings, Carries, IsPushed, at_node, residual_tail, residual_head, left_on, total_room}
use Rattle.flow_cut.specs.Adjacency.{no_residual, residual_at}
use Rattle.flow_cut.specs.Layers.{FitsTo, IsLayered, IsLayerReached, steps_back}
use Rattle.flow_cut.proofs.OnArcs.{flow_on-le, part_sum}

-- a node that was reached is in the table
pub reached_in : (level : List ℕ) (v : ℕ) → slice_index level v ≢ 0 → v < length level
reached_in level v reached = elim (cases_lt v (length level)) [ inl below ↦ below | inr past ↦ absurd (reached (get_or_past level v 0 past)) ]

-- an amount that fits from the node before, fits from v
pub fits_back : (arcs : List Arc) (flows level : List ℕ) (via : List ResidualArc) (x v : ℕ) → IsLayerReached arcs level via v → x ≤ left_on arcs flows (residual_at via v) →
    FitsTo arcs flows level via x (residual_tail arcs (residual_at via v)) → FitsTo arcs flows level via x v
fits_back arcs flows level via x v reached small fits zero below = small
fits_back arcs flows level via x v reached small fits (suc k) below = fits k (omega (arith, reached.nearer, below))

pub fits_source : (arcs : List Arc) (flows level : List ℕ) (via : List ResidualArc) (x s : ℕ) → slice_index level s ≡ 1 → FitsTo arcs flows level via x s
fits_source arcs flows level via x s one k below = absurd (omega (arith, one, below))

module _ (arcs : List Arc) (n s : ℕ) (level : List ℕ) (via : List ResidualArc) (layered : IsLayered arcs n s level via) where
  not_source : (v : ℕ) → 2 ≤ slice_index level v → v ≢ s
  not_source v far same = let one : slice_index level v ≡ 1 = ap (slice_index level) same ∙ layered.source in omega (arith, one, far)

  -- each step back is one level nearer
  back_level : (k v : ℕ) → suc k ≤ slice_index level v → slice_index level (steps_back arcs via k v) + k ≡ slice_index level v
  back_level zero v far = omega arith
  back_level (suc k) v far =
      let far_enough : 2 ≤ slice_index level v = omega (arith, far) in
      let reached = layered.reached v (not_source v far_enough) (λ none. omega (arith, none, far)) in
      omega (arith, reached.nearer, back_level k (residual_tail arcs (residual_at via v)) (omega (arith, reached.nearer, far)))

  -- the arcs of two nodes on different levels are different
  apart_by : (p q : Bool) (x : Arc) (w v : ℕ) → cond p x.to x.from ≡ w → cond q x.to x.from ≡ v →
      slice_index level (cond p x.from x.to) + 1 ≡ slice_index level w → slice_index level w < slice_index level v → ⊥
  apart_by true true x w v here there nearer less = omega (arith, ap (slice_index level) (sym here ∙ there), less)
  apart_by true false x w v here there nearer less = omega (arith, ap (slice_index level) there, nearer, less)
  apart_by false true x w v here there nearer less = omega (arith, ap (slice_index level) there, nearer, less)
  apart_by false false x w v here there nearer less = omega (arith, ap (slice_index level) (sym here ∙ there), less)

  arcs_apart : (w v : ℕ) → IsLayerReached arcs level via w → IsLayerReached arcs level via v → slice_index level w < slice_index level v →
      (residual_at via w).arc ≢ (residual_at via v).arc
  arcs_apart w v first second less same =
      let x = get_or arcs (residual_at via v).arc no_arc in
      apart_by (residual_at via w).forward (residual_at via v).forward x w v (rw same at first.ends) second.ends (rw same at first.nearer) less

  -- what was sent over v leaves the amount on the rest of the way
  pub fits_on : (flows flows' : List ℕ) (x v : ℕ) → v ≢ s → slice_index level v ≢ 0 → FitsTo arcs flows level via x v →
      ((i : ℕ) → i ≢ (residual_at via v).arc → slice_index flows' i ≡ slice_index flows i) → FitsTo arcs flows' level via x (residual_tail arcs (residual_at via v))
  fits_on flows flows' x v apart reached fits others = λ k below.
      let here = layered.reached v apart reached in
      let u = residual_tail arcs (residual_at via v) in
      let w = steps_back arcs via k u in
      let level_w = back_level k u (omega (arith, below)) in
      let far : 2 ≤ slice_index level w = omega (arith, level_w, below) in
      let there = layered.reached w (not_source w far) (λ none. omega (arith, none, far)) in
      let less : slice_index level w < slice_index level v = omega (arith, level_w, here.nearer) in
      let same = others (residual_at via w).arc (arcs_apart w v there here less) in
      let was : x ≤ left_on arcs flows (residual_at via w) = fits (suc k) (omega (arith, here.nearer, below)) in
      rw same was

-- the amount waits at the node before
pub carries_on : (arcs : List Arc) (s t v value amount : ℕ) (r : ResidualArc) (flows flows' : List ℕ) → residual_head arcs r ≡ v → IsPushed arcs r amount flows flows' →
    Carries arcs s v t value amount flows → Carries arcs s (residual_tail arcs r) t value amount flows'
carries_on arcs s t v value amount r flows flows' ends pushed carries = record {
  rooms = pushed.rooms;
  each = λ w. omega (arith, pushed.moved w, carries.each w, ap (λ u. at_node u amount w) ends);
}

pub carries_first : (arcs : List Arc) (s t value amount : ℕ) (flows : List ℕ) → Brings arcs s t value flows → Carries arcs s t t value amount flows
carries_first arcs s t value amount flows brings = record {
  rooms = brings.rooms;
  each = λ w. omega (arith, brings.each w, part_sum (eqb t w) value amount);
}

pub carries_last : (arcs : List Arc) (s t value amount : ℕ) (flows : List ℕ) → Carries arcs s s t value amount flows → Brings arcs s t (value + amount) flows
carries_last arcs s t value amount flows carries = record {
  rooms = carries.rooms;
  each = λ w. omega (arith, carries.each w, part_sum (eqb s w) value amount);
}

room_at_most : (b : Bool) (room : ℕ) → cond b room 0 ≤ room
room_at_most true room = omega arith
room_at_most false room = omega arith

-- no value is above the rooms of all arcs
pub value_in : (arcs : List Arc) (s t value : ℕ) (flows : List ℕ) → s ≢ t → Brings arcs s t value flows → value ≤ total_room arcs
value_in arcs s t value flows apart brings =
    omega (
      arith,
      brings.each s,
      ap (λ b. cond b value 0) (eq-eqb s s refl),
      ap (λ b. cond b value 0) (ne_eqb t s (λ same. apart (sym same))),
      flow_on-le (λ arc. eqb arc.from s) arcs flows brings.rooms.within,
      sum_by-le-sum_by (λ arc. cond (eqb arc.from s) arc.room 0) (λ arc. arc.room) arcs (λ arc. room_at_most (eqb arc.from s) arc.room),
    )

pub total_fits : (n : ℕ) (arcs : List Arc) → IsNetwork n arcs → total_room arcs < 2 ^ 128
total_fits n arcs network = omega (arith, sum_by-le (λ arc. arc.room) room_limit arcs network.rooms, network.few_arcs)

-- what is read on a step back
pub step_back : (arcs : List Arc) (n s : ℕ) (level : List ℕ) (via : List ResidualArc) (v u : ℕ) (r : ResidualArc) → IsLayered arcs n s level via → v ≢ s → slice_index level v ≢ 0 →
    r ≡ get_or via v r → u ≡ residual_tail arcs r → (slice_index level u + 1 ≡ slice_index level v) × (slice_index level u ≢ 0) × (u ≤ n)
step_back arcs n s level via v u r layered apart reached item tail =
    let there : v < length via = omega (arith, reached_in level v reached, layered.level_len, layered.via_len) in
    let here = layered.reached v apart reached in
    let before : u ≡ residual_tail arcs (residual_at via v) = rw (get_or_read via v r there item no_residual) at tail in
    let begins : slice_index level u ≢ 0 = rw before here.begins in
    (rw before here.nearer, begins, omega (arith, reached_in level u begins, layered.level_len))
