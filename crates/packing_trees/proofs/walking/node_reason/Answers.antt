use Rattle.packing_trees.proofs.walking.node_reason.Goals as goal

pub returns-in-Pair : goal.returns-in-Pair
returns-in-Pair c = rw c.in-Pair.is (c.pair_reason.ensures c.args.bound)

pub returns-in-Share : goal.returns-in-Share
returns-in-Share c = rw c.in-Share.is (c.share_reason.ensures c.args.branch.now c.in_ok-bundles.ensures.bundles)
