use Rattle.std.proofs.Common.{◌++◌, ◌∙◌, List, length, map, take, ap, arith, sym}
use Rattle.std.proofs.lemmas.List.{length-map}
use Rattle.branch_rules.specs.Trees.{NodeList}
use Rattle.branch_rules.specs.declared.node.Node.{Node}
use Rattle.grown_trees.specs.Blocks.{joined}
use Rattle.grown_trees.specs.declared.growing.GrowingNode.{GrowingNode}
use Rattle.grown_trees.proofs.Joining.{node_of, nodes_more, part_few}
use Rattle.grown_trees.proofs.blocks.tree_of.Goals as goal

pub put_nodes-requires : goal.put_nodes-requires
put_nodes-requires c =
    let blocks = c.args.blocks.now in
    let i = c.loop-block.block-index in
    omega (
      arith,
      ap (λ (t : NodeList). length t.nodes) c.loop-block.invariant,
      ap (λ (t : NodeList). t.room) c.loop-block.invariant,
      length-map (joined (take i blocks)) node_of,
      part_few blocks i c.block-item.result c.loop-block-test.true,
      ap length c.block-item.is,
      ap length c.nodes.ensures,
      c.requires,
    )

pub loop-block-preserved : goal.loop-block-preserved
loop-block-preserved c =
    let blocks = c.args.blocks.now in
    let i = c.loop-block.block-index in
    c.put_nodes.ensures
    ∙ ap (λ (t : NodeList). record { nodes = t.nodes ++ map node_of c.nodes.result.now; room = t.room }) c.loop-block.invariant
    ∙ ap (λ (ns : List Node). record { nodes = ns; room = c.args.len })
    (ap (λ (es : List GrowingNode). map node_of (joined (take i blocks)) ++ map node_of es) (c.nodes.ensures ∙ c.block-item.is) ∙ sym (nodes_more blocks i c.block-item.result c.loop-block-test.true))
