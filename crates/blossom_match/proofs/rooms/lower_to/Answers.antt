use Rattle.std.proofs.Common.{◌<◌, arith, length}
use Rattle.blossom_match.proofs.Bounding.{lowered_more}
use Rattle.blossom_match.proofs.rooms.lower_to.Goals as goal

pub loop-v-preserved : goal.loop-v-preserved
loop-v-preserved c =
    let v_in : c.loop-v.v < length c.loop-v.least = omega (arith, c.loop-v.auto.least, c.loop-v-test.true) in
    lowered_more c.args.costs.now c.args.state.now c.args.u c.args.least.now c.loop-v.least c.loop-v.v c.bound_with.result c.loop-v.invariant v_in c.bound_with.ensures.less c.bound_with.ensures.low
