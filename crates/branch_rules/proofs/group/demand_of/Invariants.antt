use Rattle.std.proofs.Common.{◌≡◌, ◌*◌, ◌≤◌, take}
use Rattle.branch_rules.specs.Bonds.{group_demand}
use Rattle.branch_rules.proofs.group.demand_of.Given as goal

-- the demand so far, and that it is small
abbrev pub invariant-loop-e : goal.invariant-loop-e
invariant-loop-e l = record {
  value : l.demand ≡ group_demand l.inst (take l.e-index l.edges);
  small : l.demand ≤ 30000 * l.e-index;
}
