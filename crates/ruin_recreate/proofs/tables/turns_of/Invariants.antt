use Rattle.std.proofs.Common.{◌+◌, ◌*◌}
use Rattle.ruin_recreate.specs.Tables.{AreTurns}
use Rattle.ruin_recreate.proofs.tables.turns_of.Given as goal

abbrev pub invariant-loop-x : goal.invariant-loop-x
invariant-loop-x l = AreTurns (2 * l.inst.required + 2) l.x l.turns.items
