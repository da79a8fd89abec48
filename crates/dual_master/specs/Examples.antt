-- Small data for the examples beside the tests. No public contract speaks of this.
use Rattle.std.specs.Prelude.{ℕ, Bool, ◌&&◌, ◌==◌, nat_lt, List, [], ◌∷◌, pos}
use Rattle.cut_pool.specs.declared.shore.Weighted.{Weighted}
use Rattle.branch_rules.specs.Prices.{Prices}
use Rattle.carp_base.specs.Problem.{Problem}

-- a price of 8 for a service of cost 7
abbrev pub dear_prices : Prices
dear_prices = record { unit = 1; services = pos 8 ∷ []; weights = []; groups = [] }

-- the service at cost, and no weight
abbrev pub bare_prices : Prices
bare_prices = record { unit = 1; services = pos 7 ∷ []; weights = []; groups = [] }

-- the service at cost, and a weight of 5 on the shore, in halves
abbrev pub half_prices : Prices
half_prices = record { unit = 2; services = pos 14 ∷ []; weights = record { shore = 1; weight = pos 10 } ∷ []; groups = [] }

-- the service cost and the deadhead of the only tour, and no weight
abbrev pub shared_prices : Prices
shared_prices = record { unit = 1; services = pos 12 ∷ []; weights = []; groups = [] }

-- a price of 13, and no weight
abbrev pub high_prices : Prices
high_prices = record { unit = 1; services = pos 13 ∷ []; weights = []; groups = [] }

-- a depot alone
abbrev pub no_town : Problem
no_town = record { vertices = 1; depot = 1; capacity = 1; required = 0; edges = [] }

-- the vertex 2 is beyond the levels below 5
abbrev pub town_level : ℕ → ℕ → Bool
town_level t v = nat_lt t 5 && (v == 2)

abbrev pub town_shells : List Weighted
town_shells = record { shore = 2 ∷ []; weight = pos 5 } ∷ []

-- the shore in halves, for the street gone back
abbrev pub town_halves : List Weighted
town_halves = record { shore = 2 ∷ []; weight = pos 10 } ∷ []
