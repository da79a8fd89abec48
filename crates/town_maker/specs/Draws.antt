-- What is drawn for the streets of a town, one street after another (O'Neill, "PCG: a family of simple fast space-efficient statistically good
-- algorithms for random number generation").
use Rattle.std.specs.Prelude.{ℕ, ◌+◌, ◌%◌, ◌==◌, List, [], ◌∷◌, if◌then◌else◌}
use Rattle.carp_base.specs.declared.edge.RawEdge.{RawEdge}
use Rattle.rand_pcg.specs.Lcg.{Lcg}
use Rattle.rand_pcg.specs.Pcg.{pcg32}
use Rattle.town_maker.specs.declared.grid.Street.{Street}

-- the next word modulo k, and the generator after it
unfoldable pub drawn : ℕ → Lcg → ℕ × Lcg
drawn k g = ((pcg32 g).0 % k, (pcg32 g).1)

-- a number from `least` on, of k numbers
abbrev pub drawn_from : ℕ → ℕ → Lcg → ℕ × Lcg
drawn_from least k g = (least + (drawn k g).0, (drawn k g).1)

-- the demand of a street: where a first draw is 0 the street is required, and 1 to 9 is drawn for it; else it is 0, and nothing more is drawn
unfoldable pub drawn_demand : Lcg → ℕ × Lcg
drawn_demand g = if (drawn 2 g).0 == 0 then drawn_from 1 9 (drawn 2 g).1 else (0, (drawn 2 g).1)

-- an edge on this street; a service costs what a crossing costs
abbrev pub edge_on : Street → ℕ → ℕ → RawEdge
edge_on s cost demand = record { u = s.u; v = s.v; cost = cost; demand = demand; service = cost }

-- a street with its cost, which is drawn first, and its demand
unfoldable pub drawn_edge : Street → Lcg → RawEdge × Lcg
drawn_edge s g =
    let cost = drawn_from 10 90 g in
    let demand = drawn_demand cost.1 in
    (edge_on s cost.0 demand.0, demand.1)

-- the streets with what is drawn for them, and the generator after them
abbrev pub drawn_edges : List Street → Lcg → List RawEdge × Lcg
drawn_edges [] g = ([], g)
drawn_edges (s ∷ ss) g = ((drawn_edge s g).0 ∷ (drawn_edges ss (drawn_edge s g).1).0, (drawn_edges ss (drawn_edge s g).1).1)
