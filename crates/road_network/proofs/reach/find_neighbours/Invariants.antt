use Rattle.std.proofs.Common.{◌≡◌, ℕ, ◌<◌, Bool, true, false, get_or}
use Rattle.carp_base.specs.Problem.{edge_at, tail_of, head_of}
use Rattle.road_network.specs.Search.{IsFound, Grows}
use Rattle.road_network.proofs.reach.find_neighbours.Given as goal

abbrev pub invariant-loop-e : goal.invariant-loop-e
invariant-loop-e l = record {
  found : IsFound l.inst l.reached.items l.found.items;
  grows : Grows l.fn.reached.items l.fn.found.items l.reached.items l.found.items;
  joined : (k : ℕ) (forward : Bool) → k < l.e-index → tail_of (edge_at l.inst (get_or l.edges k 0)) forward ≡ l.v →
      get_or l.reached.items (head_of (edge_at l.inst (get_or l.edges k 0)) forward) false ≡ true;
}
