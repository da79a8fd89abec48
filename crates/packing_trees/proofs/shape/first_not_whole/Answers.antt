use Rattle.std.proofs.Common.{arith}
use Rattle.packing_trees.proofs.Filling.{after_most, fails_more, fills_more, whole_early}
use Rattle.packing_trees.proofs.shape.first_not_whole.Goals as goal

pub returns-then-subtrees-eq0 : goal.returns-then-subtrees-eq0
returns-then-subtrees-eq0 c = c.loop-i.invariant.fails c.loop-i.i (whole_early c.args.nodes.now c.loop-i.i c.loop-i-test.true _ c.if-subtrees-eq0.true)

pub loop-i-preserved : goal.loop-i-preserved
loop-i-preserved c = record {
  few = omega (arith, after_most c.loop-i.subtrees c.open_after-subtrees.result _ c.open_after-subtrees.ensures, c.loop-i.invariant.few);
  fails = fails_more c.args.nodes.now c.loop-i.i c.loop-i-test.true c.loop-i.subtrees _ _ c.if-subtrees-eq0.false c.open_after-subtrees.ensures c.loop-i.invariant.fails;
  fills = fills_more c.args.nodes.now c.loop-i.i c.loop-i-test.true c.loop-i.subtrees _ _ c.if-subtrees-eq0.false c.open_after-subtrees.ensures c.loop-i.invariant.fills;
}
