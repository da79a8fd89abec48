-- Flows in a network of arcs with rooms, and the cuts that bound them (Ford and Fulkerson 1956).
use Rattle.std.specs.Prelude.{◌≡◌, ◌≢◌, ◌==◌, ℕ, zero, suc, ◌+◌, ◌≤◌, Bool, true, false, not, ◌&&◌, if◌then◌else◌, List, [], ◌∷◌, length, slice_index, slice_index_or}
use Rattle.std.specs.List.{sum_by, All}
use Rattle.flow_cut.specs.declared.network.Arc.{Arc}

-- the most nodes and the most arcs of a network, and the greatest room of an arc
abbrev pub node_limit : ℕ
node_limit = 10000

abbrev pub arc_limit : ℕ
arc_limit = 40000

abbrev pub room_limit : ℕ
room_limit = 1000000000000000000

-- a number of one of the nodes 1 to n
pub record IsNode (n v : ℕ) : Type 0 where
  pub from_one : 1 ≤ v
  pub in_range : v ≤ n

-- an arc between nodes
pub record HasEnds (n : ℕ) (arc : Arc) : Type 0 where
  pub from_in : IsNode n arc.from
  pub to_in : IsNode n arc.to

-- an arc whose room is not too great
abbrev pub HasFineRoom : Arc → Type 0
HasFineRoom arc = arc.room ≤ room_limit

-- a network of n nodes, within the limits
pub record IsNetwork (n : ℕ) (arcs : List Arc) : Type 0 where
  pub few_nodes : n ≤ node_limit
  pub few_arcs : length arcs ≤ arc_limit
  pub ends : All (HasEnds n) arcs
  pub rooms : All HasFineRoom arcs

-- what flows on the arcs that a test picks; the flow of an arc stands at the place of the arc
abbrev pub flow_on : (Arc → Bool) → List Arc → List ℕ → ℕ
flow_on test [] flows = 0
flow_on test (arc ∷ arcs) [] = 0
flow_on test (arc ∷ arcs) (x ∷ flows) = (if test arc then x else 0) + flow_on test arcs flows

-- what flows out of a node, and into it
abbrev pub outflow : List Arc → List ℕ → ℕ → ℕ
outflow arcs flows v = flow_on (λ arc. arc.from == v) arcs flows

abbrev pub inflow : List Arc → List ℕ → ℕ → ℕ
inflow arcs flows v = flow_on (λ arc. arc.to == v) arcs flows

abbrev pub no_arc : Arc
no_arc = record { from = 0; to = 0; room = 0 }

-- the arc at a place from 0
abbrev pub arc_at : List Arc → ℕ → Arc
arc_at arcs i = slice_index_or arcs i no_arc

-- one flow for each arc, none above the room of its arc
pub record IsWithinRooms (arcs : List Arc) (flows : List ℕ) : Type 0 where
  pub one_each : length flows ≡ length arcs
  pub within : (i : ℕ) → slice_index flows i ≤ (arc_at arcs i).room

-- a flow from s to t of this value: it keeps within the rooms, at each node but s and t as much flows in as out,
-- and the value is what flows out of s less what flows into s. In a network a number that is no node has no arcs
pub record IsFlow (arcs : List Arc) (s t value : ℕ) (flows : List ℕ) : Type 0 where
  pub rooms : IsWithinRooms arcs flows
  pub balanced : (v : ℕ) → v ≢ s → v ≢ t → inflow arcs flows v ≡ outflow arcs flows v
  pub value_is : value + inflow arcs flows s ≡ outflow arcs flows s

-- node v is on the side; the entry of node 1 is the first, and 0 is no node
abbrev pub is_on : List Bool → ℕ → Bool
is_on side zero = false
is_on side (suc k) = slice_index_or side k false

-- a side of a cut between s and t
pub record IsSide (side : List Bool) (s t : ℕ) : Type 0 where
  pub source : is_on side s ≡ true
  pub target : is_on side t ≡ false

-- the arc leads from the side to the other nodes
abbrev pub leaves : List Bool → Arc → Bool
leaves side arc = is_on side arc.from && not (is_on side arc.to)

-- the rooms of the arcs that leave a side
abbrev pub cut_room : List Arc → List Bool → ℕ
cut_room arcs side = sum_by (λ arc. if leaves side arc then arc.room else 0) arcs
