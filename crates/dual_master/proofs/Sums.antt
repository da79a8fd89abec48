-- Sums of signed numbers, and of services.
use Rattle.std.proofs.Common.{◌≡◌, ℕ, zero, suc, ◌+◌, ◌*◌, ◌<◌, ◌≤◌, List, [], ◌∷◌, map, length, get_or, ap, ◌∙◌, arith, pos}
use Rattle.std.specs.List.{All, sum_by}
use Rattle.std.proofs.lemmas.Int.{ints}
use Rattle.std.proofs.lemmas.List.{get_or-map, get_or-take, length-map, length-take-le}
use Rattle.std.proofs.lemmas.List.Elements.{All-map, All-from_get_or}
use Rattle.std.proofs.lemmas.List.Sums.{sum_by-cons}
use Rattle.carp_base.specs.declared.edge.Edge.{Edge}
use Rattle.carp_base.specs.Problem.{Problem, IsValid, IsRequired, edge_at, no_edge, required_edges, required_cost, total_demand}
use Rattle.branch_rules.specs.Limits.{IsPriceNumber}
use Rattle.branch_rules.specs.Prices.{Prices, price_in, signed_sum}
use Rattle.dual_master.specs.Pieces.{prices_at, ArePricesSmall}

-- the sum of prices that are natural numbers
priced_sum : (unit share : ℕ) (edges : List Edge) →
    signed_sum (λ z. z) (map (λ x. pos (unit * x.service + share * x.demand)) edges) ≡ pos (unit * sum_by (λ x. x.service) edges + share * sum_by (λ x. x.demand) edges)
priced_sum unit share [] = ap pos (omega arith)
priced_sum unit share (x ∷ edges) =
    let more = priced_sum unit share edges in
    let services = sum_by-cons (λ (y : Edge). y.service) x edges in
    let demands = sum_by-cons (λ (y : Edge). y.demand) x edges in
    rw (services, demands) (omega (arith, ints, more))

pub services_sum : (p : Problem) (unit share : ℕ) → signed_sum (λ z. z) (prices_at p unit share) ≡ pos (unit * required_cost p + share * total_demand p)
services_sum p unit share = priced_sum unit share (required_edges p)

-- the required edges, by their numbers
pub required_long : (p : Problem) → IsValid p → length (required_edges p) ≡ p.required
required_long p valid = length-take-le p.required p.edges valid.required_in

pub prices_long : (p : Problem) (unit share : ℕ) → IsValid p → length (prices_at p unit share) ≡ p.required
prices_long p unit share valid = length-map (required_edges p) (λ x. pos (unit * x.service + share * x.demand)) ∙ required_long p valid

pub price_at : (p : Problem) (set : Prices) (unit share e : ℕ) → IsValid p → set.services ≡ prices_at p unit share → IsRequired p e →
    price_in set e ≡ pos (unit * (edge_at p e).service + share * (edge_at p e).demand)
price_at p set unit share zero valid same is = absurd (omega (arith, is.from_one))
price_at p set unit share (suc k) valid same is =
    let below : k < p.required = omega (arith, is.in_range) in
    ap (λ xs. get_or xs k (pos 0)) same
    ∙ get_or-map (λ (x : Edge). pos (unit * x.service + share * x.demand)) (required_edges p) k no_edge (pos 0) (omega (arith, below, required_long p valid))
    ∙ ap (λ (x : Edge). pos (unit * x.service + share * x.demand)) (get_or-take p.required p.edges k no_edge below)

natural_small : (n : ℕ) → n ≤ 1000000000000000 → IsPriceNumber (pos n)
natural_small n small = record { low = omega (arith, ints); high = omega (arith, ints, small) }

-- each is small, read at a place
pub place_small : (p : Problem) (unit share : ℕ) → IsValid p → ArePricesSmall p unit share → (k : ℕ) → k < p.required →
    unit * (get_or (required_edges p) k no_edge).service + share * (get_or (required_edges p) k no_edge).demand ≤ 1000000000000000
place_small p unit share valid small k inside =
    rw (get_or-take p.required p.edges k no_edge inside) (small (suc k) (record { from_one = omega arith; in_range = omega (arith, inside) }))

pub prices_small : (p : Problem) (unit share : ℕ) → IsValid p → ArePricesSmall p unit share → All IsPriceNumber (prices_at p unit share)
prices_small p unit share valid small =
    All-map IsPriceNumber (λ (x : Edge). pos (unit * x.service + share * x.demand)) (required_edges p)
    (All-from_get_or (λ (x : Edge). IsPriceNumber (pos (unit * x.service + share * x.demand))) (required_edges p) no_edge (λ k below. each k below))
  where
    each : (k : ℕ) → k < length (required_edges p) → IsPriceNumber (pos (unit * (get_or (required_edges p) k no_edge).service + share * (get_or (required_edges p) k no_edge).demand))
    each k below = natural_small _ (place_small p unit share valid small k (omega (arith, below, required_long p valid)))
