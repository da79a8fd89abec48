-- What an edge of a valid instance costs, by its place.
use Rattle.std.proofs.Common.{◌≡◌, ℕ, suc, ◌<◌, ◌≤◌, List, length, get_or, ap, arith}
use Rattle.carp_base.specs.declared.edge.Edge.{Edge}
use Rattle.carp_base.specs.Problem.{Problem, IsValid, IsEdgeNumber, no_edge}

-- a number from 1, as a place from 0
number_of : (p : Problem) (k : ℕ) → k < length p.edges → IsEdgeNumber p (suc k)
number_of p k less = record { from_one = omega arith; in_range = omega (arith, less) }

pub cost_in : (p : Problem) (edges : List Edge) (i : ℕ) → IsValid p → edges ≡ p.edges → i < length edges → (get_or edges i no_edge).cost ≤ 1000000
cost_in p edges i valid same short =
    omega (arith, (valid.edges (suc i) (number_of p i (omega (arith, short, ap length same)))).cost_in, ap (λ (xs : List Edge). (get_or xs i no_edge).cost) same)
