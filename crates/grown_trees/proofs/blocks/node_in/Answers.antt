use Rattle.std.proofs.Common.{◌∙◌}
use Rattle.grown_trees.proofs.Joining.{block_is, node_is}
use Rattle.grown_trees.proofs.blocks.node_in.Goals as goal

pub returns : goal.returns
returns c =
    node_is c.args.blocks.now c.args.place c.find-spot.result c.find-spot.ensures c.nodes.result.now
    (c.nodes.ensures ∙ c.index-blocks-spot.is ∙ block_is c.args.blocks.now c.args.place c.find-spot.result c.find-spot.ensures c.index-blocks-spot.result) _ _
