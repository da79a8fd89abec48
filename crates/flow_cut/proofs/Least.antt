-- A flow after a search that does not reach the target.
use Rattle.std.proofs.Common.{◌≡◌, ◌≢◌, ℕ, zero, suc, ◌+◌, ◌-◌, ◌<◌, ◌≤◌, Bool, true, false, not, cond, eqb, List, length, get_or, slice_index, map, drop, replicate, refl, sym, ap, ◌∙◌, arith, inl, inr}
use Rattle.std.proofs.lemmas.Bool.{and_parts, cases_lt, eq-eqb, ne_eqb, eqb-true, eqb-false, not-true, not-false}
use Rattle.std.proofs.lemmas.List.{get_or-drop, get_or-map, get_or-replicate, get_or_past, length-drop, length-replicate}
use Rattle.flow_cut.specs.declared.network.Arc.{Arc}
use Rattle.flow_cut.specs.declared.residual.ResidualArc.{ResidualArc}
use Rattle.flow_cut.specs.Flows.{IsFlow, IsNetwork, IsNode, IsSide, cut_room, is_on, leaves, no_arc}
use Rattle.flow_cut.specs.Residual.{Brings}
use Rattle.flow_cut.specs.Adjacency.{residual}
use Rattle.flow_cut.specs.Layers.{IsClosed, IsEnded, IsLayered, IsOpen}
use Rattle.flow_cut.proofs.OnArcs.{flow_on-empty}
use Rattle.flow_cut.proofs.Cuts.{enters, full_cut}

-- what a search leaves
pub record IsSearched (arcs : List Arc) (flows : List ℕ) (n s t : ℕ) (level : List ℕ) (via : List ResidualArc) : Type 0 where
  pub layered : IsLayered arcs n s level via
  pub open_yet : IsOpen arcs flows s level via
  pub closed : slice_index level t ≡ 0 → IsClosed arcs flows level

-- a flow of nothing
none_flows : (m k : ℕ) → get_or {A = ℕ} (replicate m 0) k 0 ≡ 0
none_flows m k = elim (cases_lt k m) [
  | inl below ↦ get_or-replicate m k 0 0 below
  | inr past ↦ get_or_past (replicate m 0) k 0 (omega (arith, past, length-replicate {A = ℕ} m 0))
]

nothing_at : (b : Bool) → ◌≡◌ {A = ℕ} (cond b 0 0) 0
nothing_at true = refl
nothing_at false = refl

pub brings_none : (arcs : List Arc) (s t : ℕ) → Brings arcs s t 0 (replicate (length arcs) 0)
brings_none arcs s t =
    let zeros = none_flows (length arcs) in
    record {
      rooms = record { one_each = length-replicate (length arcs) 0; within = λ i. rw (zeros i) (omega arith) };
      each = λ v.
          omega (
            arith,
            flow_on-empty (λ arc. eqb arc.to v) arcs (replicate (length arcs) 0) (λ i below picked. zeros i),
            flow_on-empty (λ arc. eqb arc.from v) arcs (replicate (length arcs) 0) (λ i below picked. zeros i),
            nothing_at (eqb s v),
            nothing_at (eqb t v),
          );
    }

pub flow_from : (arcs : List Arc) (s t value : ℕ) (flows : List ℕ) → s ≢ t → Brings arcs s t value flows → IsFlow arcs s t value flows
flow_from arcs s t value flows apart brings = record {
  rooms = brings.rooms;
  balanced = λ v not_s not_t.
      omega (
        arith,
        brings.each v,
        ap (λ b. cond b value 0) (ne_eqb s v (λ same. not_s (sym same))),
        ap (λ b. cond b value 0) (ne_eqb t v (λ same. not_t (sym same))),
      );
  value_is =
      omega (
        arith,
        brings.each s,
        ap (λ b. cond b value 0) (eq-eqb s s refl),
        ap (λ b. cond b value 0) (ne_eqb t s (λ same. apart (sym same))),
      );
}

-- the nodes that were reached, by their levels
abbrev pub reached_nodes : List ℕ → List Bool
reached_nodes level = map (λ depth. not (eqb depth 0)) (drop 1 level)

on_side : (n : ℕ) (level : List ℕ) (v : ℕ) → length level ≡ n + 1 → IsNode n v → is_on (reached_nodes level) v ≡ not (eqb (slice_index level v) 0)
on_side n level zero long node = absurd (omega (arith, node.from_one))
on_side n level (suc k) long node =
    let below : k < length (drop 1 level) = omega (arith, length-drop 1 level, long, node.in_range) in
    let next : 1 + k ≡ suc k = omega arith in
    get_or-map (λ depth. not (eqb depth 0)) (drop 1 level) k 0 false below ∙ ap (λ depth. not (eqb depth 0)) (get_or-drop 1 level k 0 ∙ ap (slice_index level) next)

-- a node is on the side just where it was reached
on_reached : (n : ℕ) (level : List ℕ) (v : ℕ) → length level ≡ n + 1 → IsNode n v → is_on (reached_nodes level) v ≡ true → slice_index level v ≢ 0
on_reached n level v long node on = eqb-false (slice_index level v) 0 (not-true (eqb (slice_index level v) 0) (sym (on_side n level v long node) ∙ on))

off_reached : (n : ℕ) (level : List ℕ) (v : ℕ) → length level ≡ n + 1 → IsNode n v → is_on (reached_nodes level) v ≡ false → slice_index level v ≡ 0
off_reached n level v long node off = eqb-true (slice_index level v) 0 (not-false (eqb (slice_index level v) 0) (sym (on_side n level v long node) ∙ off))

module _ (arcs : List Arc) (flows : List ℕ) (n s t value : ℕ) (level : List ℕ) (via : List ResidualArc)
    (network : IsNetwork n arcs) (source : IsNode n s) (target : IsNode n t) (apart : s ≢ t) (brings : Brings arcs s t value flows)
    (ended : IsEnded arcs flows n s t level via) where
  pub ended_flow : IsFlow arcs s t value flows
  ended_flow = flow_from arcs s t value flows apart brings

  pub ended_side : IsSide (reached_nodes level) s t
  ended_side = record {
    source = on_side n level s ended.layered.level_len source ∙ ap (λ depth. not (eqb depth 0)) ended.layered.source;
    target = on_side n level t ended.layered.level_len target ∙ ap (λ depth. not (eqb depth 0)) ended.unreached;
  }

  -- nothing is left on an arc that leaves the side, and nothing flows on one that enters it
  leaving_full : (i : ℕ) → i < length arcs → leaves (reached_nodes level) (get_or arcs i no_arc) ≡ true → get_or flows i 0 ≡ (get_or arcs i no_arc).room
  leaving_full i here out =
      let arc = get_or arcs i no_arc in
      let ends = network.ends i no_arc here in
      let p = and_parts (is_on (reached_nodes level) arc.from) (not (is_on (reached_nodes level) arc.to)) out in
      let from = on_reached n level arc.from ended.layered.level_len ends.from_in p.0 in
      let to = off_reached n level arc.to ended.layered.level_len ends.to_in (not-true (is_on (reached_nodes level) arc.to) p.1) in
      let none : 1 ≤ arc.room - get_or flows i 0 → ⊥ = λ left. ended.closed arc.from from (residual i true) here refl left to in
      elim (cases_lt (get_or flows i 0) arc.room) [
        | inl less ↦ absurd (none (omega (arith, less)))
        | inr more ↦ omega (arith, more, brings.rooms.within i)
      ]

  entering_empty : (i : ℕ) → i < length arcs → enters (reached_nodes level) (get_or arcs i no_arc) ≡ true → get_or flows i 0 ≡ 0
  entering_empty i here into =
      let arc = get_or arcs i no_arc in
      let ends = network.ends i no_arc here in
      let p = and_parts (is_on (reached_nodes level) arc.to) (not (is_on (reached_nodes level) arc.from)) into in
      let to = on_reached n level arc.to ended.layered.level_len ends.to_in p.0 in
      let from = off_reached n level arc.from ended.layered.level_len ends.from_in (not-true (is_on (reached_nodes level) arc.from) p.1) in
      let none : 1 ≤ get_or flows i 0 → ⊥ = λ left. ended.closed arc.to to (residual i false) here refl left from in
      elim (cases_lt 0 (get_or flows i 0)) [
        | inl some ↦ absurd (none (omega (arith, some)))
        | inr zeroth ↦ omega (arith, zeroth)
      ]

  pub ended_cut : cut_room arcs (reached_nodes level) ≡ value
  ended_cut = full_cut arcs s t value flows (reached_nodes level) ended_flow ended_side leaving_full entering_empty
