-- What is left of a tour, from the last edge to the first. No public contract speaks of this.
use Rattle.std.specs.Prelude.{◌≡◌, ℕ, ◌+◌, ◌-◌, ◌*◌, ◌<◌, ◌≤◌, Bool, true, false, List, ◌∷◌, ◌++◌, length, take, drop, slice_index_or, if◌then◌else◌}
use Rattle.carp_base.specs.declared.edge.Task.{Task}
use Rattle.carp_base.specs.Problem.{Problem, edge_at, head_of, tail_of}
use Rattle.deadhead_paths.specs.Prices.{IsLeastPrice, price_of, costs_of}
use Rattle.deadhead_paths.specs.Tours.{LeastDeadhead}
use Rattle.task_tours.specs.Tours.{IsStand}
use Rattle.decision_chains.specs.Directions.{Directs}
use Rattle.decision_chains.specs.declared.directing.Left.{Left}

-- n is the least, over all directions of the edges, of the least deadhead from a vertex over them to the depot
pub record IsLeastLeft (p : Problem) (a : ℕ) (edges : List ℕ) (n : ℕ) : Type 0 where
  pub tasks : List Task
  pub directs : Directs edges tasks
  pub deadhead : LeastDeadhead p (price_of (costs_of p)) a tasks p.depot n
  pub least : (other : List Task) (m : ℕ) → Directs edges other → LeastDeadhead p (price_of (costs_of p)) a other p.depot m → n ≤ m

-- what is left after an edge, which is crossed forward or backward
abbrev pub left_after : Left → Bool → ℕ
left_after left forward = if forward then left.forward else left.backward

pub record IsLeftAfter (p : Problem) (e : ℕ) (edges : List ℕ) (left : Left) : Type 0 where
  pub forward : IsLeastLeft p (head_of (edge_at p e) true) edges left.forward
  pub backward : IsLeastLeft p (head_of (edge_at p e) false) edges left.backward

-- neither is above so much an edge
pub record IsSmallLeft (edges : ℕ) (left : Left) : Type 0 where
  pub forward : left.forward ≤ 999000000 * edges
  pub backward : left.backward ≤ 999000000 * edges

-- an edge is crossed in a direction at the least price, and what is then left is the least of all
pub record IsBestStart (p : Problem) (a e : ℕ) (edges : List ℕ) (left : Left) (forward : Bool) (n : ℕ) : Type 0 where
  pub out : ℕ
  pub price : IsLeastPrice p (price_of (costs_of p)) a (tail_of (edge_at p e) forward) out
  pub sum : n ≡ out + left_after left forward
  pub best : IsLeastLeft p a (e ∷ edges) n

-- what stands if there is nothing
abbrev pub no_left : Left
no_left = record { forward = 0; backward = 0 }

-- from a place on it is known what is left after each edge
pub record IsFilled (p : Problem) (edges : List ℕ) (lefts : List Left) (i : ℕ) : Type 0 where
  pub long : length lefts ≡ length edges
  pub each : (j : ℕ) → i ≤ j → j < length edges → IsLeftAfter p (slice_index_or edges j 0) (drop (j + 1) edges) (slice_index_or lefts j no_left)
  pub small : (j : ℕ) → i ≤ j → j < length edges → IsSmallLeft (length edges - j) (slice_index_or lefts j no_left)

-- a tour has done tasks on the edges before a place: what it spent, and what is left, is the least of all
pub record IsUnderway (p : Problem) (edges : List ℕ) (i at : ℕ) (tasks : List Task) : Type 0 where
  pub spent : ℕ
  pub stand : IsStand p at
  pub directs : Directs (take i edges) tasks
  pub goes : (more : List Task) (n : ℕ) → LeastDeadhead p (price_of (costs_of p)) at more p.depot n → LeastDeadhead p (price_of (costs_of p)) p.depot (tasks ++ more) p.depot (spent + n)
  pub whole : (n : ℕ) → IsLeastLeft p at (drop i edges) n → IsLeastLeft p p.depot edges (spent + n)
