use Rattle.std.proofs.Common.{◌≡◌, ◌*◌, take, pos, neg_ℤ, ◌≤ℤ◌}
use Rattle.branch_rules.specs.Prices.{signed_sum, crossing_weight}
use Rattle.branch_rules.proofs.price_set.weights_across.Given as goal

abbrev pub invariant-loop-weight : goal.invariant-loop-weight
invariant-loop-weight l = record {
  value : l.sum ≡ signed_sum (crossing_weight l.pool l.edge) (take l.weight-index l.weights);
  low : neg_ℤ (pos (1000000000000000 * l.weight-index)) ≤ℤ l.sum;
  high : l.sum ≤ℤ pos (1000000000000000 * l.weight-index);
}
