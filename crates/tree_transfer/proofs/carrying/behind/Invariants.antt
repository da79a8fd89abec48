use Rattle.std.proofs.Common.{◌+◌, ◌≤◌}
use Rattle.tree_transfer.specs.Carrying.{IsLeftOf}
use Rattle.tree_transfer.proofs.carrying.behind.Given as goal

abbrev pub invariant-loop-place : goal.invariant-loop-place
invariant-loop-place l = record {
  left : IsLeftOf l.tree.nodes l.fn.from l.place l.left;
  few : l.left + l.fn.from ≤ l.place + 1;
}
