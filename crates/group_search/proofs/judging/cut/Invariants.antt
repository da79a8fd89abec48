use Rattle.std.proofs.Common.{◌≡◌, ◌+◌, ◌*◌, ◌≤◌}
use Rattle.plan_model.specs.Sums.{sum_to}
use Rattle.group_search.specs.Violation.{flow_to, outward}
use Rattle.group_search.proofs.judging.cut.Given as goal

abbrev pub invariant-loop-f : goal.invariant-loop-f
invariant-loop-f l = record {
  value : l.sum ≡ flow_to l.flow l.group 0 + sum_to l.f (outward l.flow l.group);
  small : l.sum ≤ (l.f + 1) * 2576980377000;
}
