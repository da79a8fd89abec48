use Rattle.matching_duals.specs.Sets.{HasCells}
use Rattle.matching_duals.proofs.pairing.set_row.Given as goal

abbrev pub invariant-loop-b : goal.invariant-loop-b
invariant-loop-b l = HasCells l.inst l.ground.odd.items l.ground.table.items l.a l.b l.costs
