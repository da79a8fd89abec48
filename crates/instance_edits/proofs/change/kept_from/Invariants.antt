use Rattle.std.proofs.Common.{◌≡◌, ◌≤◌, length}
use Rattle.instance_edits.specs.Changing.{kept_from}
use Rattle.instance_edits.proofs.change.kept_from.Given as goal

abbrev pub invariant-loop-place : goal.invariant-loop-place
invariant-loop-place l = record { items : l.edges.items ≡ kept_from l.fn.inst l.changes l.first l.place; few : length l.edges.items ≤ l.place }
