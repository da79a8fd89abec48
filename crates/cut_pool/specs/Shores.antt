-- Sets of vertices, and the edges that cross them (Belenguer and Benavent 1998).
use Rattle.std.specs.Prelude.{◌≡◌, ◌≢◌, ℕ, ◌-◌, ◌*◌, ◌%◌, Bool, false, ◌||◌, ◌==◌, List, [], if◌then◌else◌, sum_by, count_by, max}
use Rattle.std.specs.List.{list_any, All}
use Rattle.std.specs.Int.{div_ceil}
use Rattle.std.specs.List.Sorted.{IsStrictlyIncreasing}
use Rattle.carp_base.specs.declared.edge.Edge.{Edge}
use Rattle.carp_base.specs.Problem.{Problem, IsVertex, required_edges}
use Rattle.plan_model.specs.Plans.{crosses}

-- a vertex stands in the list
abbrev pub is_in : List ℕ → ℕ → Bool
is_in shore v = list_any (λ x. x == v) shore

-- a shore: some vertices, each written once, in rising order
pub record IsShore (shore : List ℕ) : Type 0 where
  pub some : shore ≢ []
  pub rising : IsStrictlyIncreasing shore

-- its vertices are in the instance, and none is the depot
pub record Belongs (p : Problem) (shore : List ℕ) : Type 0 where
  pub vertices : All (IsVertex p) shore
  pub no_depot : is_in shore p.depot ≡ false

-- at least one end lies inside
abbrev pub touches : (ℕ → Bool) → Edge → Bool
touches inside x = inside x.u || inside x.v

-- the number of required edges with exactly one end inside
abbrev pub required_crossings : Problem → (ℕ → Bool) → ℕ
required_crossings p inside = count_by (crosses inside) (required_edges p)

-- the demand of an edge where it touches the set
abbrev pub demand_inside : (ℕ → Bool) → Edge → ℕ
demand_inside inside x = if touches inside x then x.demand else 0

-- the demand of the required edges with at least one end inside; an edge with both ends inside counts once
abbrev pub touched : Problem → (ℕ → Bool) → ℕ
touched p inside = sum_by (demand_inside inside) (required_edges p)

-- how many vehicles a demand takes, rounded up
abbrev pub vehicles : Problem → ℕ → ℕ
vehicles p demand = div_ceil demand p.capacity

-- the least number of deadheads over the set: for parity, and for as many vehicles as its demand takes
abbrev pub need : Problem → (ℕ → Bool) → ℕ
need p inside =
    let r = required_crossings p inside in max (r % 2) (2 * vehicles p (touched p inside) - r)
