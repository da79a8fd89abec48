use Rattle.std.proofs.Common.{◌≡◌, ◌*◌, ◌≤◌, ◌^◌, take}
use Rattle.std.specs.List.{sum_by}
use Rattle.plan_model.specs.Plans.{step_load}
use Rattle.plan_model.proofs.totals.load_of.Given as goal

-- the sum so far, and that it is small
abbrev pub invariant-loop-i : goal.invariant-loop-i
invariant-loop-i l = record {
  value : l.sum ≡ sum_by (step_load l.inst) (take l.i l.walk);
  small : l.sum ≤ l.i * 2 ^ 64;
}
