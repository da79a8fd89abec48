-- The residual network of a flow: each arc can be crossed forward, up to the room that is left, and backward, up to its flow. No public contract speaks of this.
use Rattle.std.specs.Prelude.{◌≡◌, ◌≢◌, ◌==◌, ℕ, ◌+◌, ◌-◌, if◌then◌else◌, List, slice_index}
use Rattle.std.specs.List.{sum_by}
use Rattle.flow_cut.specs.declared.network.Arc.{Arc}
use Rattle.flow_cut.specs.declared.residual.ResidualArc.{ResidualArc}
use Rattle.flow_cut.specs.Flows.{arc_at, inflow, outflow, IsWithinRooms}

-- where a residual arc begins and ends
abbrev pub residual_tail : List Arc → ResidualArc → ℕ
residual_tail arcs r = if r.forward then (arc_at arcs r.arc).from else (arc_at arcs r.arc).to

abbrev pub residual_head : List Arc → ResidualArc → ℕ
residual_head arcs r = if r.forward then (arc_at arcs r.arc).to else (arc_at arcs r.arc).from

-- how much more can cross
abbrev pub left_on : List Arc → List ℕ → ResidualArc → ℕ
left_on arcs flows r = if r.forward then (arc_at arcs r.arc).room - slice_index flows r.arc else slice_index flows r.arc

-- an amount at one node, and nothing at the others
abbrev pub at_node : ℕ → ℕ → ℕ → ℕ
at_node u amount v = if u == v then amount else 0

-- an amount crossed a residual arc
pub record IsPushed (arcs : List Arc) (r : ResidualArc) (amount : ℕ) (before after : List ℕ) : Type 0 where
  pub rooms : IsWithinRooms arcs after
  pub moved : (v : ℕ) → inflow arcs after v + outflow arcs before v + at_node (residual_tail arcs r) amount v ≡ outflow arcs after v + inflow arcs before v + at_node (residual_head arcs r) amount v
  pub others : (i : ℕ) → i ≢ r.arc → slice_index after i ≡ slice_index before i

-- the flows keep within the rooms and bring the value from s to t
pub record Brings (arcs : List Arc) (s t value : ℕ) (flows : List ℕ) : Type 0 where
  pub rooms : IsWithinRooms arcs flows
  pub each : (v : ℕ) → inflow arcs flows v + at_node s value v ≡ outflow arcs flows v + at_node t value v

-- the flows keep within the rooms, and bring the value from s to t and the amount from u to t
pub record Carries (arcs : List Arc) (s u t value amount : ℕ) (flows : List ℕ) : Type 0 where
  pub rooms : IsWithinRooms arcs flows
  pub each : (v : ℕ) → inflow arcs flows v + at_node s value v + at_node u amount v ≡ outflow arcs flows v + at_node t (value + amount) v

-- the rooms of all arcs
abbrev pub total_room : List Arc → ℕ
total_room arcs = sum_by (λ arc. arc.room) arcs
