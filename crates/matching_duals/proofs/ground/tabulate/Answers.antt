use Rattle.matching_duals.proofs.Reaches.{table_more}
use Rattle.matching_duals.proofs.ground.tabulate.Goals as goal

pub loop-x-preserved : goal.loop-x-preserved
loop-x-preserved c = table_more c.args.inst.now c.loop-x.x c.loop-x.table.items c.add_row.new.table.items c.loop-x.invariant c.in_ok-add_row.ensures
