use Rattle.matching_duals.proofs.Reaches.{RowTo}
use Rattle.matching_duals.proofs.ground.add_row.Given as goal

abbrev pub invariant-loop-v : goal.invariant-loop-v
invariant-loop-v l = RowTo l.inst l.x l.fn.table.items l.v l.table.items
