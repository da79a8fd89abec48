-- Small data for the examples beside the tests. No public contract speaks of this.
use Rattle.std.specs.Prelude.{ℕ, true, false, [], ◌∷◌, List, ℤ, pos, neg_ℤ}
use Rattle.carp_base.specs.declared.edge.Edge.{Edge}
use Rattle.carp_base.specs.declared.edge.Task.{Task}
use Rattle.carp_base.specs.Problem.{Problem}
use Rattle.route_pricing.specs.Pricing.{Pricing}

-- a street from the depot 1 to 2, which costs 5 without service
abbrev pub served_street : ℕ → ℕ → Edge
served_street demand service = record { u = 1; v = 2; cost = 5; demand = demand; service = service }

-- two streets side by side, of demand 1 and 2 and service cost 7 and 4
abbrev pub twin_streets : Problem
twin_streets = record { vertices = 2; depot = 1; capacity = 3; required = 2; edges = served_street 1 7 ∷ served_street 2 4 ∷ [] }

-- they may follow each other; a deadhead costs 5, and service costs count twice
abbrev pub twins_at : List ℤ → Pricing
twins_at services = record {
  problem = twin_streets;
  prices = 5 ∷ 5 ∷ [];
  unit = 2;
  services = services;
  relation = record { size = 2; table = false ∷ true ∷ true ∷ false ∷ [] };
  surcharges = [];
}

-- with the prices 10 and 8 for the services
abbrev pub paid_twins : Pricing
paid_twins = twins_at (pos 10 ∷ pos 8 ∷ [])

-- the same with a surcharge of 3 where one is served directly after the other
abbrev pub charged_twins : Pricing
charged_twins = record paid_twins { surcharges = pos 0 ∷ pos 3 ∷ pos 3 ∷ pos 0 ∷ [] }

-- the same where 3 is gained
abbrev pub gained_twins : Pricing
gained_twins = record paid_twins { surcharges = pos 0 ∷ neg_ℤ (pos 3) ∷ neg_ℤ (pos 3) ∷ pos 0 ∷ [] }

-- each street served from the depot and to it
abbrev pub outward : ℕ → Task
outward e = record { edge = e; forward = true }

abbrev pub inward : ℕ → Task
inward e = record { edge = e; forward = false }
