use Rattle.std.proofs.Common.{◌≡◌, ◌*◌, ◌≤◌, take}
use Rattle.branch_rules.specs.Bonds.{group_demand}
use Rattle.group_search.proofs.judging.demand_of.Given as goal

abbrev pub invariant-loop-e : goal.invariant-loop-e
invariant-loop-e l = record {
  value : l.demand ≡ group_demand l.inst (take l.e-index l.group);
  small : l.demand ≤ 30000 * l.e-index;
}
