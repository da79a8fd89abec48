-- Small data for the examples beside the tests. No public contract speaks of this.
use Rattle.std.specs.Prelude.{◌≡◌, ℕ, List, [], ◌∷◌}
use Rattle.carp_base.specs.declared.edge.Edge.{Edge}
use Rattle.carp_base.specs.Problem.{Problem}
use Rattle.ruin_recreate.specs.declared.board.Board.{Board}

-- a town of two lanes from the depot, of which the second leads back to it, and takes the whole capacity
abbrev pub lane : Edge
lane = record { u = 1; v = 2; cost = 5; demand = 2; service = 7 }

abbrev pub way_back : Edge
way_back = record { u = 2; v = 1; cost = 6; demand = 3; service = 7 }

abbrev pub two_lanes : Problem
two_lanes = record { vertices = 2; depot = 1; capacity = 3; required = 2; edges = lane ∷ way_back ∷ [] }

-- a town without an edge
abbrev pub bare : Problem
bare = record { vertices = 1; depot = 1; capacity = 3; required = 0; edges = [] }

-- a board with these numbers
pub record HasNumbers (b : Board) (width : ℕ) (links demands turns : List ℕ) (room : ℕ) : Type 0 where
  pub width_is : b.width ≡ width
  pub links_are : b.links.items ≡ links
  pub demands_are : b.demands.items ≡ demands
  pub turns_are : b.turns.items ≡ turns
  pub room_is : b.room ≡ room
