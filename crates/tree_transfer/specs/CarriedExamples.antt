-- Small data for the examples. No public contract speaks of this.
use Rattle.std.specs.Prelude.{ℕ, pos, List, [], ◌∷◌}
use Rattle.carp_base.specs.Problem.{Problem}
use Rattle.cut_pool.specs.Examples.{loaded_street}
use Rattle.branch_rules.specs.Prices.{Prices}
use Rattle.branch_rules.specs.Trees.{Tree, Support, pair, cut, price, void}

-- three streets of demand 2 each, from the depot 1 to 2, 3 and 4
abbrev pub star : ℕ → Problem
star capacity = record {
  vertices = 4;
  depot = 1;
  capacity = capacity;
  required = 3;
  edges = loaded_street 1 2 2 ∷ loaded_street 1 3 2 ∷ loaded_street 1 4 2 ∷ [];
}

-- the shore of all vertices but the depot
abbrev pub star_pool : List (List ℕ)
star_pool = (2 ∷ 3 ∷ 4 ∷ []) ∷ []

-- a pair with two leaves, a pair whose second child is another pair, and a cut
abbrev pub paired : Tree
paired = pair 1 2 (price 1) (price 2)

abbrev pub paired_twice : Tree
paired_twice = pair 1 3 (price 3) (pair 1 2 (price 1) (price 2))

abbrev pub cut_at : ℕ → Tree
cut_at k = cut 1 k void (price 1)

-- two vertices and no street
abbrev pub waste : Problem
waste = record { vertices = 2; depot = 1; capacity = 1; required = 0; edges = [] }

-- a weight of 5 on the shore of the other vertex
abbrev pub waste_prices : Prices
waste_prices = record { unit = 1; services = []; weights = record { shore = 1; weight = pos 5 } ∷ []; groups = [] }

abbrev pub waste_support : Support
waste_support = record { problem = waste; pool = (2 ∷ []) ∷ []; sets = waste_prices ∷ [] }
