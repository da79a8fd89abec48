-- What a tour's services add, by a ratio of deadhead and load.
use Rattle.std.proofs.Common.{◌≡◌, ℕ, zero, suc, ◌+◌, ◌*◌, List, [], ◌∷◌, map, get_or, refl, ap, arith, ℤ, pos, ◌+ℤ◌, ◌-ℤ◌, nat_abs}
use Rattle.std.specs.List.{AllByRecursion}
use Rattle.std.proofs.lemmas.Int.{ints}
use Rattle.std.proofs.lemmas.List.Sums.{sum_by-cons}
use Rattle.carp_base.specs.declared.edge.Edge.{Edge}
use Rattle.carp_base.specs.declared.edge.Task.{Task}
use Rattle.carp_base.specs.Problem.{Problem, IsValid, IsRequired, edge_at}
use Rattle.deadhead_paths.specs.Prices.{price_of, costs_of}
use Rattle.branch_rules.specs.Prices.{price_in, task_adds, crossing_prices, signed_sum}
use Rattle.dual_master.specs.Floors.{tour_load}
use Rattle.dual_master.specs.Pieces.{ratio_set}
use Rattle.dual_master.proofs.Sums.{price_at}

-- without weights a crossing is priced at its cost, in parts of the denominator
plain_price : (n : ℕ) → nat_abs (pos n -ℤ pos 0) ≡ n
plain_price zero = refl
plain_price (suc n) = omega arith

scaled_at : (unit : ℕ) (edges : List Edge) (k : ℕ) → get_or (map (λ x. nat_abs (pos (unit * x.cost) -ℤ pos 0)) edges) k 0 ≡ unit * get_or (map (λ x. x.cost) edges) k 0
scaled_at unit [] k = omega arith
scaled_at unit (x ∷ edges) zero = plain_price (unit * x.cost)
scaled_at unit (x ∷ edges) (suc k) = scaled_at unit edges k

pub crossing_scaled : (p : Problem) (pool : List (List ℕ)) (a b e : ℕ) → price_of (crossing_prices p pool (ratio_set p a b)) e ≡ b * price_of (costs_of p) e
crossing_scaled p pool a b zero = omega arith
crossing_scaled p pool a b (suc k) = scaled_at b p.edges k

-- each service takes its share off
less_price : (z : ℤ) (m n : ℕ) → z ≡ pos (m + n) → (pos m -ℤ z) +ℤ pos n ≡ pos 0
less_price z m n is = omega (arith, ints, is)

pub services_take : (p : Problem) (a b : ℕ) → IsValid p → (tasks : List Task) → AllByRecursion (λ t. IsRequired p t.edge) tasks →
    signed_sum (λ t. task_adds p (ratio_set p a b) t.edge) tasks +ℤ pos (a * tour_load p tasks) ≡ pos 0
services_take p a b valid [] all = ap pos (omega arith)
services_take p a b valid (t ∷ tasks) all =
    let x = edge_at p t.edge in
    let one = less_price (price_in (ratio_set p a b) t.edge) (b * x.service) (a * x.demand) (price_at p (ratio_set p a b) b a t.edge valid refl all.0) in
    let loads = sum_by-cons (λ (u : Task). (edge_at p u.edge).demand) t tasks in
    rw loads (omega (arith, ints, one, services_take p a b valid tasks all.1))
