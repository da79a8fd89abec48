-- The tables of the search. No public contract speaks of this.
use Rattle.std.specs.Prelude.{◌≡◌, ℕ, ◌+◌, ◌<◌, ◌≤◌, List, length}
use Rattle.std.specs.List.{All}
use Rattle.carp_base.specs.Problem.{Problem}
use Rattle.flow_cut.specs.declared.network.Arc.{Arc}
use Rattle.flow_cut.specs.Flows.{HasEnds, HasFineRoom}
use Rattle.shore_search.specs.declared.streets.Streets.{Streets}
use Rattle.shore_search.specs.Shortfall.{AreShort, shortfall}

-- the place of a vertex
pub record IsStop (width v : ℕ) : Type 0 where
  pub from_one : 1 ≤ v
  pub below : v < width

-- a start for each place and one more, edges between places, a depot, and a capacity
pub record AreStreets (s : Streets) : Type 0 where
  pub starts : length s.starts.items ≡ s.width + 1
  pub halves : All (λ h. h.to < s.width) s.halves.items
  pub some : 1 ≤ s.width
  pub narrow : s.width ≤ 1001
  pub depot : IsStop s.width s.depot
  pub loads : 1 ≤ s.capacity

-- shores that fall short, none by less than `least`
pub record AreShortBy (p : Problem) (x : List ℕ) (most least : ℕ) (shores : List (List ℕ)) : Type 0 where
  pub short : AreShort p x most shores
  pub above : All (λ shore. least ≤ shortfall p x shore) shores

-- arcs between so many nodes, with rooms within the limit
pub record AreArcs (nodes : ℕ) (arcs : List Arc) : Type 0 where
  pub ends : All (HasEnds nodes) arcs
  pub rooms : All HasFineRoom arcs
