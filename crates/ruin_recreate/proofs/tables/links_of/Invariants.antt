use Rattle.std.proofs.Common.{◌+◌, ◌*◌}
use Rattle.ruin_recreate.specs.Tables.{AreRows}
use Rattle.ruin_recreate.proofs.tables.links_of.Given as goal

abbrev pub invariant-loop-x : goal.invariant-loop-x
invariant-loop-x l = AreRows l.inst (2 * l.inst.required + 2) l.x l.links.items
