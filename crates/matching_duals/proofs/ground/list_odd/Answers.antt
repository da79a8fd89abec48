use Rattle.matching_duals.specs.OddSets.{is_odd}
use Rattle.matching_duals.proofs.Few.{where_more}
use Rattle.matching_duals.proofs.ground.list_odd.Goals as goal

pub loop-v-preserved : goal.loop-v-preserved
loop-v-preserved c =
    where_more (is_odd c.args.net.now) c.loop-v.odd.items c.add_odd.new.odd.items c.loop-v.v c.loop-v.auto.v c.loop-v.invariant c.in_ok-add_odd.ensures
