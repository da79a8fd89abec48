-- Small data for the examples beside the tests. No public contract speaks of this.
use Rattle.std.specs.Prelude.{ℕ, pos, negsuc, Bool, true, false, List, [], ◌∷◌}
use Rattle.plan_model.specs.declared.step.Step.{Step}
use Rattle.deadhead_paths.specs.Examples.{town, serve, homeward}
use Rattle.branch_rules.specs.Bonds.{GroupWeight}
use Rattle.branch_rules.specs.Prices.{Prices}
use Rattle.branch_rules.specs.Trees.{Support}

-- a step along a row of streets, away from the depot, and back
abbrev pub outward : ℕ → Bool → Step
outward e served = record { edge = e; forward = true; served = served }

abbrev pub inward : ℕ → Step
inward e = record { edge = e; forward = false; served = false }

-- a tour serves two streets, one after the other
abbrev pub one_row_tour : List (List Step)
one_row_tour = (outward 1 true ∷ outward 2 true ∷ inward 2 ∷ inward 1 ∷ []) ∷ []

-- two tours serve one street each
abbrev pub two_row_tours : List (List Step)
two_row_tours = (outward 1 true ∷ inward 1 ∷ []) ∷ (outward 1 false ∷ outward 2 true ∷ inward 2 ∷ inward 1 ∷ []) ∷ []

-- the shore of the town's other vertex
abbrev pub town_pool : List (List ℕ)
town_pool = (2 ∷ []) ∷ []

-- a tour serves the town's street, for 7, and goes back, for 5
abbrev pub town_plan : List (List Step)
town_plan = (serve ∷ homeward ∷ []) ∷ []

-- a price of 7 for the service, and a weight of 5 on the shore
abbrev pub town_prices : Prices
town_prices = record { unit = 1; services = pos 7 ∷ []; weights = record { shore = 1; weight = pos 5 } ∷ []; groups = [] }

-- the weight is above what it costs to cross the street
abbrev pub heavy_prices : Prices
heavy_prices = record { unit = 1; services = pos 7 ∷ []; weights = record { shore = 1; weight = pos 6 } ∷ []; groups = [] }

-- the weight is negative
abbrev pub light_prices : Prices
light_prices = record { unit = 1; services = pos 7 ∷ []; weights = record { shore = 1; weight = negsuc 0 } ∷ []; groups = [] }

-- a group of two streets, and a weight of 3 on its bonds
abbrev pub row : List ℕ
row = 1 ∷ 2 ∷ []

abbrev pub row_weights : List GroupWeight
row_weights = record { edges = row; weight = pos 3 } ∷ []

-- a price of 4 for each of the two streets
abbrev pub row_prices : Prices
row_prices = record { unit = 1; services = pos 4 ∷ pos 4 ∷ []; weights = []; groups = row_weights }

-- a second weight, of 2, on a group that has both streets, too
abbrev pub both_weights : List GroupWeight
both_weights = record { edges = 1 ∷ 2 ∷ 3 ∷ []; weight = pos 2 } ∷ row_weights

-- a negative weight on the pair of streets, of size 4
abbrev pub yes_weights : List GroupWeight
yes_weights = record { edges = row; weight = negsuc 3 } ∷ []

-- a price of 1 for each of the two streets, and that weight
abbrev pub yes_prices : Prices
yes_prices = record { unit = 1; services = pos 1 ∷ pos 1 ∷ []; weights = []; groups = yes_weights }

abbrev pub town_support : Support
town_support = record { problem = town; pool = town_pool; sets = town_prices ∷ [] }
