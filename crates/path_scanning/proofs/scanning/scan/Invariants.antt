use Rattle.std.proofs.Common.{◌≡◌, ◌+◌, ◌≤◌, false, length}
use Rattle.std.specs.Prelude.{replicate}
use Rattle.path_scanning.specs.Choosing.{ToursScanned, open_count}
use Rattle.path_scanning.proofs.scanning.scan.Given as goal

abbrev pub invariant-loop-plan : goal.invariant-loop-plan
invariant-loop-plan l = record {
  long : length l.served.items ≡ l.inst.required;
  scanned : ToursScanned l.inst l.rule (replicate l.inst.required false) l.plan l.served.items;
  few : length l.plan + open_count l.served.items ≤ l.inst.required;
}

abbrev pub decreases-loop-plan : goal.decreases-loop-plan
decreases-loop-plan l = open_count l.served.items
