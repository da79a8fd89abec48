use Rattle.matching_duals.proofs.Reaches.{row_more}
use Rattle.matching_duals.proofs.ground.add_row.Goals as goal

pub loop-v-preserved : goal.loop-v-preserved
loop-v-preserved c =
    rw c.in_ok-push-2.ensures.items
    (row_more c.args.inst.now c.args.x c.args.table.now.items c.loop-v.table.items c.loop-v.v c.reach_of.result c.loop-v.invariant c.reach_of.ensures.value c.reach_of.ensures.small)
