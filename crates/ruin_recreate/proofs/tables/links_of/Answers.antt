use Rattle.ruin_recreate.proofs.Rows.{rows_more}
use Rattle.ruin_recreate.proofs.tables.links_of.Goals as goal

pub loop-x-preserved : goal.loop-x-preserved
loop-x-preserved c = rows_more c.args.inst.now c.loop-x.x c.loop-x.links.items c.add_row.new.links.items c.loop-x.invariant c.in_ok-add_row.ensures
