-- Sets of which one number is greater stay within their limits.
use Rattle.std.proofs.Common.{ℕ, ◌≤◌, List, length, arith, pos, ◌+ℤ◌, ◌≤ℤ◌}
use Rattle.std.specs.List.{All}
use Rattle.std.proofs.lemmas.List.Elements.{All-weaker}
use Rattle.cut_pool.specs.Pools.{IsShoreNumber}
use Rattle.branch_rules.specs.declared.weight.Weight.{Weight}
use Rattle.branch_rules.specs.Limits.{IsPriceSet}
use Rattle.branch_rules.specs.Prices.{Prices, no_weight, price_in}
use Rattle.tight_prices.specs.Tight.{add_weight, weight_on, with_price, with_weight}
use Rattle.tight_prices.proofs.Adding.{add_long, prices_fine}
use Rattle.tight_prices.proofs.Weighed.{AreAbove, above_from, add_above, add_all, add_fine, few_above, rising_from}

pub price_set_fine : (set : Prices) (e d : ℕ) → IsPriceSet set → (price_in set e +ℤ pos d) ≤ℤ pos 1000000000000000 → IsPriceSet (with_price set e d)
price_set_fine set e d fine within = record {
  some_unit = fine.some_unit;
  unit_in = fine.unit_in;
  few_services = omega (arith, fine.few_services, add_long e d set.services);
  services = prices_fine set e d fine.services within;
  few_weights = fine.few_weights;
  weights = fine.weights;
  rising = fine.rising;
  few_groups = fine.few_groups;
  groups = fine.groups;
  few_edges = fine.few_edges;
}

-- the shores of a set rise from 1
pub set_above : (set : Prices) → IsPriceSet set → AreAbove 0 set.weights
set_above set fine = above_from 0 set.weights (λ some. omega (arith, (fine.weights 0 no_weight some).from_one)) fine.rising

pub weight_set_fine : (pool : List (List ℕ)) (set : Prices) (s d : ℕ) → length pool ≤ 2000 → IsPriceSet set → All (λ w. IsShoreNumber pool w.shore) set.weights → IsShoreNumber pool s →
    (weight_on set.weights s +ℤ pos d) ≤ℤ pos 1000000000000000 → IsPriceSet (with_weight set s d)
weight_set_fine pool set s d few fine numbers number within =
    let above = add_above 0 s d set.weights (omega (arith, number.from_one)) (set_above set fine) in
    let all = add_all (λ (w : Weight). w.shore ≤ length pool) s d set.weights (λ some. number.in_range) (λ w is same some. number.in_range)
    (All-weaker (λ (w : Weight). IsShoreNumber pool w.shore) (λ (w : Weight). w.shore ≤ length pool) (λ w is. is.in_range) set.weights numbers) in
    record {
      some_unit = fine.some_unit;
      unit_in = fine.unit_in;
      few_services = fine.few_services;
      services = fine.services;
      few_weights = omega (arith, few_above 0 (length pool) (add_weight s d set.weights) (omega arith) above all, few);
      weights = add_fine 0 s d set.weights number.from_one (set_above set fine) fine.weights within;
      rising = rising_from 0 (add_weight s d set.weights) above;
      few_groups = fine.few_groups;
      groups = fine.groups;
      few_edges = fine.few_edges;
    }
