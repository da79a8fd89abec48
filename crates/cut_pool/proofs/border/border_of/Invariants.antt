use Rattle.std.proofs.Common.{◌≡◌, ◌-◌, ◌*◌, ◌≤◌, take}
use Rattle.std.specs.List.{sum_by, count_by}
use Rattle.plan_model.specs.Plans.{crosses}
use Rattle.cut_pool.specs.Shores.{is_in, demand_inside}
use Rattle.cut_pool.proofs.border.border_of.Given as goal

-- the count and the sum so far, and that they are small
abbrev pub invariant-loop-e : goal.invariant-loop-e
invariant-loop-e l = record {
  crossings : l.crossings ≡ count_by (crosses (is_in l.s)) (take (l.e - 1) l.inst.edges);
  demand : l.demand ≡ sum_by (demand_inside (is_in l.s)) (take (l.e - 1) l.inst.edges);
  few : l.crossings ≤ l.e - 1;
  small : l.demand ≤ (l.e - 1) * 30000;
}
