use Rattle.packing_trees.proofs.Weighing.{labels_more}
use Rattle.packing_trees.proofs.bundling.join_all.Goals as goal

pub loop-choice-preserved : goal.loop-choice-preserved
loop-choice-preserved c = labels_more c.args.branch.now c.loop-choice.choice-index _ _ _ c.loop-choice-test.true c.loop-choice.invariant c.follow.ensures
