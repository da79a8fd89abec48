use Rattle.std.proofs.Common.{◌≡◌, ◌*◌, ◌≤◌, take}
use Rattle.group_search.specs.Violation.{flow_to}
use Rattle.group_search.proofs.judging.flow_to.Given as goal

abbrev pub invariant-loop-e : goal.invariant-loop-e
invariant-loop-e l = record {
  value : l.sum ≡ flow_to l.flow (take l.e-index l.group) l.f;
  small : l.sum ≤ 4294967295 * l.e-index;
}
