-- Laws of violated sets, and of shells.
use Rattle.std.specs.Prelude.{◌≡◌, ℕ, ◌+◌, ◌*◌, ◌≤◌, Bool, List}
use Rattle.carp_base.specs.Problem.{Problem, IsValid, IsEdgeNumber, edge_at, total_demand}
use Rattle.cut_pool.specs.declared.shore.Weighted.{Weighted}
use Rattle.flow_cut.specs.Flows.{IsSide, IsNetwork, is_on, cut_room}
use Rattle.edge_components.specs.Parts.{AreParts}
use Rattle.capacity_cuts.specs.Violation.{gain, loss, IsMostViolated}
use Rattle.capacity_cuts.specs.Network.{network, source}
use Rattle.capacity_cuts.specs.Levels.{AreShells, AreLevelSets, needs_below, weighted_needs, weights_over}

-- a cut's room is a constant less the violation of its side
abbrev pub CutIsViolation : Type 0
CutIsViolation =
    (p : Problem) (unit : ℕ) (x : List ℕ) (side : List Bool) → IsValid p → IsSide side (source p) p.depot →
    cut_room (network p unit x) side + gain p unit (is_on side) ≡ 2 * (unit * total_demand p) + loss p unit x (is_on side)

-- the side of a least cut is violated most
abbrev pub LeastCutIsMostViolated : Type 0
LeastCutIsMostViolated =
    (p : Problem) (unit : ℕ) (x : List ℕ) (side : List Bool) → IsValid p → IsSide side (source p) p.depot →
    ((other : List Bool) → IsSide other (source p) p.depot → cut_room (network p unit x) side ≤ cut_room (network p unit x) other) →
    IsMostViolated p unit x (is_on side)

-- the network is one that a flow may be asked of
abbrev pub NetworkIsFine : Type 0
NetworkIsFine = (p : Problem) (unit : ℕ) (x : List ℕ) → IsValid p → unit ≤ 1000000 → AreParts p x → IsNetwork (source p) (network p unit x)

-- over each edge the shells weigh no more than its cost
abbrev pub ShellsPack : Type 0
ShellsPack = (p : Problem) (shells : List Weighted) → IsValid p → AreShells p shells → (e : ℕ) → IsEdgeNumber p e → weights_over p shells e ≤ (edge_at p e).cost

-- the needs of the shells, each times its number of levels, are the needs of all level sets; no distance passes 10^9
abbrev pub ShellsWeighTheirNeeds : Type 0
ShellsWeighTheirNeeds =
    (p : Problem) (shells : List Weighted) (level : ℕ → ℕ → Bool) (k : ℕ) → IsValid p → AreShells p shells → AreLevelSets p level → 1000000000 ≤ k →
    weighted_needs p shells ≡ needs_below p level k
