use Rattle.std.proofs.Common.{◌≡◌, ◌*◌, ◌≤◌, ◌^◌, take}
use Rattle.std.specs.List.{sum_by}
use Rattle.plan_model.specs.Plans.{walk_cost}
use Rattle.plan_print.proofs.sheets.total_cost.Given as goal

-- the sum so far, and that it is small
abbrev pub invariant-loop-i : goal.invariant-loop-i
invariant-loop-i l = record {
  value : l.sum ≡ sum_by (walk_cost l.inst) (take l.i l.plan);
  small : l.sum ≤ l.i * (2 ^ 32 * 1000000);
}
