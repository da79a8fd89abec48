use Rattle.std.proofs.Common.{◌≡◌, ◌*◌, take, pos, neg_ℤ, ◌≤ℤ◌}
use Rattle.branch_rules.specs.Bonds.{room}
use Rattle.branch_rules.specs.Prices.{weigh_bonds}
use Rattle.branch_rules.specs.Sums.{signed_sum}
use Rattle.branch_rules.proofs.group.rooms_weigh.Given as goal

-- the sum so far, and that it is small
abbrev pub invariant-loop-group : goal.invariant-loop-group
invariant-loop-group l = record {
  value : l.sum ≡ signed_sum (λ w. weigh_bonds w.weight (room l.inst w.edges)) (take l.group-index l.groups);
  low : neg_ℤ (pos (600000000000000000 * l.group-index)) ≤ℤ l.sum;
  high : l.sum ≤ℤ pos (600000000000000000 * l.group-index);
}
