use Rattle.std.proofs.Common.{◌≡◌, ◌*◌, take, pos, neg_ℤ, ◌≤ℤ◌}
use Rattle.branch_rules.specs.Bonds.{surcharge}
use Rattle.branch_rules.proofs.group.surcharge_of.Given as goal

-- the sum so far, and that it is small
abbrev pub invariant-loop-group : goal.invariant-loop-group
invariant-loop-group l = record {
  value : l.sum ≡ surcharge (take l.group-index l.groups) l.e l.f;
  low : neg_ℤ (pos (1000000000000000 * l.group-index)) ≤ℤ l.sum;
  high : l.sum ≤ℤ pos (1000000000000000 * l.group-index);
}
