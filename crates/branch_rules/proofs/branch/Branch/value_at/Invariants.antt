use Rattle.std.proofs.Common.{◌≡◌, ◌*◌, ◌<◌, ℕ, take, pos, neg_ℤ, ◌≤ℤ◌}
use Rattle.branch_rules.specs.Prices.{signed_sum, weight_value, weight_at}
use Rattle.branch_rules.specs.Decisions.{rules_of}
use Rattle.branch_rules.specs.Refusals.{HasUpper}
use Rattle.branch_rules.proofs.branch.Branch.value_at.Given as goal

abbrev pub invariant-loop-weight : goal.invariant-loop-weight
invariant-loop-weight l = record {
  value : l.sum ≡ signed_sum (weight_value (rules_of l.inst l.pool l.self)) (take l.weight-index l.set.weights);
  low : neg_ℤ (pos (40000000000000000000000 * l.weight-index)) ≤ℤ l.sum;
  high : l.sum ≤ℤ pos (40000000000000000000000 * l.weight-index);
  before : (k : ℕ) → k < l.weight-index → HasUpper l.self (weight_at l.set k);
}
