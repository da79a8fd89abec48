-- Small networks for examples.
use Rattle.std.specs.Prelude.{Bool, true, false, List, [], ◌∷◌}
use Rattle.flow_cut.specs.declared.network.Arc.{Arc}

-- up to 3 can flow from node 1 to node 2, and up to 2 from there to node 3
abbrev pub row : List Arc
row = record { from = 1; to = 2; room = 3 } ∷ record { from = 2; to = 3; room = 2 } ∷ []

-- nodes 1 and 2
abbrev pub first_two : List Bool
first_two = true ∷ true ∷ false ∷ []

-- node 1
abbrev pub first_one : List Bool
first_one = true ∷ false ∷ false ∷ []
