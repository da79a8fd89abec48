use Rattle.matching_duals.proofs.Reaches.{TableTo}
use Rattle.matching_duals.proofs.ground.tabulate.Given as goal

abbrev pub invariant-loop-x : goal.invariant-loop-x
invariant-loop-x l = TableTo l.inst l.x l.table.items
