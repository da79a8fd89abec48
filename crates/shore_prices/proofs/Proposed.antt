-- The set of services at cost and of listed weights.
use Rattle.std.proofs.Common.{◌≡◌, ℕ, zero, suc, ◌+◌, ◌*◌, ◌<◌, ◌≤◌, List, [], length, map, get_or, arith, pos, subst}
use Rattle.std.specs.List.{All}
use Rattle.std.proofs.lemmas.Int.{ints}
use Rattle.std.proofs.lemmas.List.{length-map, length-take}
use Rattle.std.proofs.lemmas.List.Elements.{All-from_get_or, All-nil}
use Rattle.std.proofs.Math.ListN.{get_or-map}
use Rattle.carp_base.specs.Problem.{Problem, IsValid, no_edge, required_edges}
use Rattle.cut_pool.specs.Shores.{Belongs}
use Rattle.branch_rules.specs.Bonds.{GroupWeight, IsGroup}
use Rattle.branch_rules.specs.Limits.{IsPriceNumber, IsPriceSet, IsShoreOf}
use Rattle.branch_rules.specs.Prices.{Prices}
use Rattle.branch_rules.specs.declared.weight.Weight.{Weight}
use Rattle.price_points.specs.Weights.{AreListed}
use Rattle.leaf_adviser.specs.Offers.{IsOffer}
use Rattle.shore_prices.proofs.Levels.{service_small}
use Rattle.price_points.specs.Limits.{denominator}

services_count : (p : Problem) → IsValid p → length (map (λ x. pos (denominator * x.service)) (required_edges p)) ≡ p.required
services_count p valid = rw (length-map, length-take) (omega (arith, valid.required_in))

services_fine : (p : Problem) → IsValid p → All IsPriceNumber (map (λ x. pos (denominator * x.service)) (required_edges p))
services_fine p valid =
    All-from_get_or IsPriceNumber (map (λ x. pos (denominator * x.service)) (required_edges p)) (pos 0) (λ i within.
    let inside : i < p.required = subst (λ n. i < n) (services_count p valid) within in
    let small = service_small p valid i inside in
    let is : get_or (map (λ x. pos (denominator * x.service)) (required_edges p)) i (pos 0) ≡ pos (denominator * (get_or (required_edges p) i no_edge).service) =
    get_or-map (λ x. pos (denominator * x.service)) (required_edges p) i no_edge in
    rw is (record { low = omega (arith, ints); high = omega (arith, ints, small) }))

-- the set
abbrev pub set_of : Problem → List Weight → Prices
set_of p weights = record { unit = denominator; services = map (λ x. pos (denominator * x.service)) (required_edges p); weights = weights; groups = [] }

pub set_fine : (p : Problem) → IsValid p → (limit : ℕ) (weights : List Weight) → limit ≤ 2000 → AreListed (limit + 1) weights → IsPriceSet (set_of p weights)
set_fine p valid limit weights few are = record {
  some_unit = omega arith;
  unit_in = omega arith;
  few_services = rw (services_count p valid) valid.few_required;
  services = services_fine p valid;
  few_weights = omega (arith, are.few, few);
  weights = are.fine;
  rising = are.rising;
  few_groups = omega arith;
  groups = λ k d below. absurd (omega (arith, below));
  few_edges = omega arith;
}

shore_in : (p : Problem) (pool : List (List ℕ)) → All (Belongs p) pool → (shore : ℕ) → 1 ≤ shore → shore < length pool + 1 → IsShoreOf p pool shore
shore_in p pool belong zero some less = absurd (omega (arith, some))
shore_in p pool belong (suc k) some less = record { number = record { from_one = omega arith; in_range = omega (arith, less) }; belongs = belong k [] (omega (arith, less)) }

pub set_offered : (p : Problem) → IsValid p → (pool : List (List ℕ)) (weights : List Weight) → All (Belongs p) pool → AreListed (length pool + 1) weights → IsOffer p pool (set_of p weights)
set_offered p valid pool weights belong are = record {
  priced = record {
    one_each = services_count p valid;
    shores = λ k d within. shore_in p pool belong (get_or weights k d).shore (are.fine k d within).from_one (are.below k d within);
  };
  groups = All-nil (λ (w : GroupWeight). IsGroup p w.edges);
}
