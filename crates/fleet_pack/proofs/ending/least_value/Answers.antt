use Rattle.fleet_pack.proofs.Finishing.{least_more}
use Rattle.fleet_pack.proofs.ending.least_value.Goals as goal

pub loop-share-preserved : goal.loop-share-preserved
loop-share-preserved c =
    least_more c.args.count c.loop-share.least c.min-least.result c.args.shares.now c.loop-share.share-index _ c.loop-share-test.true c.min-least.ensures c.loop-share.invariant
