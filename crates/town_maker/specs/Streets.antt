-- Where the streets of a town lie: on a grid of ten rows and ten columns.
use Rattle.std.specs.Prelude.{ℕ, zero, suc, ◌+◌, ◌*◌, List, [], ◌∷◌, ◌++◌, map}
use Rattle.std.specs.List.{flat_map}
use Rattle.town_maker.specs.declared.grid.Street.{Street}

-- the numbers below n, from 0
abbrev pub numbers_below : ℕ → List ℕ
numbers_below zero = []
numbers_below (suc n) = numbers_below n ++ n ∷ []

-- the vertex in a row and a column, both from 0 to 9
abbrev pub corner : ℕ → ℕ → ℕ
corner i j = 10 * i + j + 1

-- the street from a corner to the next one in its row, and to the next one in its column
abbrev pub street_along : ℕ → ℕ → Street
street_along i j = record { u = corner i j; v = corner i (j + 1) }

abbrev pub street_down : ℕ → ℕ → Street
street_down i j = record { u = corner i j; v = corner (i + 1) j }

-- the streets of a row, and those from a row to the next
abbrev pub streets_along : ℕ → List Street
streets_along i = map (street_along i) (numbers_below 9)

abbrev pub streets_down : ℕ → List Street
streets_down i = map (street_down i) (numbers_below 10)

-- all streets in their order
unfoldable pub town_streets : List Street
town_streets = flat_map streets_along (numbers_below 10) ++ flat_map streets_down (numbers_below 9)
