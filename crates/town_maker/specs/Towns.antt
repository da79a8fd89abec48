-- The town of a number.
use Rattle.std.specs.Prelude.{ℕ, not, Bool, List, filter, nat_lt}
use Rattle.carp_base.specs.declared.edge.RawEdge.{RawEdge}
use Rattle.carp_base.specs.Problem.{Problem, described}
use Rattle.rand_pcg.specs.Lcg.{Lcg, started, increment_of}
use Rattle.rand_pcg.specs.Pcg.{multiplier_64}
use Rattle.town_maker.specs.Draws.{drawn_from, drawn_edges}
use Rattle.town_maker.specs.Streets.{town_streets}

-- a street is required where it has a demand
abbrev pub has_demand : RawEdge → Bool
has_demand x = nat_lt 0 x.demand

abbrev pub has_none : RawEdge → Bool
has_none x = not (has_demand x)

-- the town on these edges: the required ones are those with a demand, in their order
abbrev pub town_on : ℕ → List RawEdge → Problem
town_on depot edges = described 100 depot 60 (filter has_demand edges) (filter has_none edges)

-- what a generator draws: all streets, and after them the depot
unfoldable pub town_from : Lcg → Problem
town_from g =
    let edges = drawn_edges town_streets g in
    town_on (drawn_from 1 100 edges.1).0 edges.0

-- the town of a number, which is the seed of the generator
abbrev pub town_of : ℕ → Problem
town_of seed = town_from (started 64 multiplier_64 seed (increment_of 64 1))
