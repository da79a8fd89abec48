use Rattle.std.proofs.Common.{◌≡◌, ◌*◌, take, pos, neg_ℤ, ◌≤ℤ◌}
use Rattle.branch_rules.specs.Prices.{signed_sum}
use Rattle.branch_rules.proofs.branch.sum_of.Given as goal

abbrev pub invariant-loop-price : goal.invariant-loop-price
invariant-loop-price l = record {
  value : l.sum ≡ signed_sum (λ price. price) (take l.price-index l.prices);
  low : neg_ℤ (pos (1000000000000000 * l.price-index)) ≤ℤ l.sum;
  high : l.sum ≤ℤ pos (1000000000000000 * l.price-index);
}
