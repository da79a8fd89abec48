use Rattle.std.proofs.Common.{◌≤◌, arith}
use Rattle.packing_trees.proofs.Weighing.{shares_more, shares_kept, small_more, small_on}
use Rattle.packing_trees.proofs.shares.shares_of.Goals as goal
use Rattle.packing_trees.proofs.shares.shares_of.Goals.{then-labels-edge, else-labels-edge}

pub loop-edge-preserved : goal.loop-edge-preserved
loop-edge-preserved c =
    let e = c.loop-edge.edge in
    let labels = c.args.labels.now in
    let weights = c.args.weights.now in
    let from_one : 1 ≤ e = omega arith in
    elim c.if-labels-edge.branch [
      | then-labels-edge w ↦ rw w.shares-is (record {
        all = shares_more c.args.capacity c.args.s labels weights e from_one _ _ w.if-labels-edge.true c.loop-edge.invariant.all w.with-shares.ensures;
        small = small_more c.args.capacity c.args.s _ e _ _ from_one (c.requires.small e from_one (omega arith)) c.loop-edge.invariant.small w.with-shares.ensures;
      })
      | else-labels-edge w ↦ rw w.shares-is (record {
        all = shares_kept c.args.capacity c.args.s labels weights e from_one _ w.if-labels-edge.false c.loop-edge.invariant.all;
        small = small_on e _ c.loop-edge.invariant.small;
      })
    ]
