use Rattle.packing_trees.proofs.Parting.{marked_more}
use Rattle.packing_trees.proofs.closing.mark_parted.Goals as goal

pub loop-choice-preserved : goal.loop-choice-preserved
loop-choice-preserved c = record {
  marked = marked_more c.args.labels.now c.args.one c.args.branch.now c.loop-choice.choice-index _ _ _ c.loop-choice-test.true c.loop-choice.invariant.marked c.mark.ensures.marked;
  clear = c.mark.ensures.clear;
}
