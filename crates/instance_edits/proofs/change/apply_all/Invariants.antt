use Rattle.std.proofs.Common.{◌≡◌, length, take}
use Rattle.instance_edits.specs.Changing.{IsTable}
use Rattle.instance_edits.proofs.change.apply_all.Given as goal

abbrev pub invariant-loop-edit : goal.invariant-loop-edit
invariant-loop-edit l = record { table : IsTable l.changes (take l.edit-index l.edits); all : length l.changes ≡ length l.fn.changes }
