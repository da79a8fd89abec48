-- An instance as a board of stops: the depot, and the service of each required edge in each direction.
use Rattle.std.specs.Prelude.{◌≡◌, ℕ, ◌+◌, ◌-◌, ◌*◌, ◌/◌, ◌%◌, ◌<◌, ◌≤◌, Bool, ◌==◌, length, if◌then◌else◌, slice_index}
use Rattle.std.specs.List.{All}
use Rattle.carp_base.specs.Problem.{Problem, edge_at, tail_of, head_of}
use Rattle.deadhead_paths.specs.Prices.{IsLeastPrice, costs_of, price_of}
use Rattle.ruin_recreate.specs.declared.board.Board.{Board}

-- the depot as a stop; the service of edge e is the stop 2 * e forward, and 2 * e + 1 backward
abbrev pub depot : ℕ
depot = 0

-- the edge that a stop serves; that of the depot is 0, which is no edge
abbrev pub edge_of : ℕ → ℕ
edge_of x = x / 2

-- whether a stop serves its edge forward
abbrev pub is_forward : ℕ → Bool
is_forward x = x % 2 == 0

-- the vertex where a stop starts, and the vertex where it ends; the stops below 2 stand at the depot
abbrev pub start_of : Problem → ℕ → ℕ
start_of p x = if edge_of x == 0 then p.depot else tail_of (edge_at p (edge_of x)) (is_forward x)

abbrev pub end_of : Problem → ℕ → ℕ
end_of p x = if edge_of x == 0 then p.depot else head_of (edge_at p (edge_of x)) (is_forward x)

-- the service of the same edge in the other direction; a stop at the depot is its own
abbrev pub other_way : ℕ → ℕ
other_way x = if edge_of x == 0 then x else (if is_forward x then x + 1 else x - 1)

-- the least price from the end of a stop to the start of another
abbrev pub link : Board → ℕ → ℕ → ℕ
link b x y = slice_index b.links.items (x * b.width + y)

-- what a stop loads
abbrev pub demand_of : Board → ℕ → ℕ
demand_of b x = slice_index b.demands.items x

-- the same service in the other direction
abbrev pub turned : Board → ℕ → ℕ
turned b x = slice_index b.turns.items x

-- the tables of a board are for the stops below its width, and its numbers are within their limits
pub record IsBoard (b : Board) : Type 0 where
  pub some_stop : 2 ≤ b.width
  pub narrow : b.width ≤ 1202
  pub square : length b.links.items ≡ b.width * b.width
  pub demands : length b.demands.items ≡ b.width
  pub turns : length b.turns.items ≡ b.width
  pub near : All (λ n. n ≤ 999000000) b.links.items
  pub light : All (λ n. n ≤ 30000) b.demands.items
  pub turned_in : All (λ x. x < b.width) b.turns.items
  pub roomy : b.room ≤ 30000

-- the board of an instance: a link is a least price by the costs of edges, and a stop loads the demand of its edge
pub record IsBoardOf (p : Problem) (b : Board) : Type 0 where
  pub width : b.width ≡ 2 * p.required + 2
  pub links : (x y : ℕ) → x < b.width → y < b.width → IsLeastPrice p (price_of (costs_of p)) (end_of p x) (start_of p y) (link b x y)
  pub demands : (x : ℕ) → x < b.width → demand_of b x ≡ (edge_at p (edge_of x)).demand
  pub turns : (x : ℕ) → x < b.width → turned b x ≡ other_way x
  pub room : b.room ≡ p.capacity
