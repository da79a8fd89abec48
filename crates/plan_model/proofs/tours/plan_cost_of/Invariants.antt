use Rattle.std.proofs.Common.{◌≡◌, ◌*◌, ◌≤◌, ◌^◌, take}
use Rattle.std.specs.List.{sum_by}
use Rattle.plan_model.specs.Plans.{walk_cost}
use Rattle.plan_model.proofs.tours.plan_cost_of.Given as goal

-- the sum so far, and that it is small
abbrev pub invariant-loop-tour : goal.invariant-loop-tour
invariant-loop-tour l = record {
  value : l.sum ≡ sum_by (walk_cost l.inst) (take l.tour l.plan);
  small : l.sum ≤ l.tour * (2 ^ 32 * 1000000);
}
