-- Laws of flows and cuts (Ford and Fulkerson 1956).
use Rattle.std.specs.Prelude.{◌≡◌, ℕ, ◌≤◌, Bool, List}
use Rattle.flow_cut.specs.declared.network.Arc.{Arc}
use Rattle.flow_cut.specs.Flows.{IsFlow, IsSide, cut_room}

-- no flow from s to t brings more than the rooms that leave a side with s and without t
abbrev pub CutBoundsFlow : Type 0
CutBoundsFlow =
    (arcs : List Arc) (s t value : ℕ) (flows : List ℕ) (side : List Bool) →
    IsFlow arcs s t value flows → IsSide side s t → value ≤ cut_room arcs side

-- every other flow brings at most as much, and every other side has at least as much room
pub record AreBest (arcs : List Arc) (s t value : ℕ) (side : List Bool) : Type 0 where
  pub greatest : (other : ℕ) (flows : List ℕ) → IsFlow arcs s t other flows → other ≤ value
  pub least : (other : List Bool) → IsSide other s t → cut_room arcs side ≤ cut_room arcs other

-- a flow that equals the room of a side is greatest, and that side is least
abbrev pub EqualIsBest : Type 0
EqualIsBest =
    (arcs : List Arc) (s t value : ℕ) (flows : List ℕ) (side : List Bool) →
    IsFlow arcs s t value flows → IsSide side s t → cut_room arcs side ≡ value → AreBest arcs s t value side
