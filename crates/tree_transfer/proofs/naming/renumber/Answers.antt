use Rattle.std.proofs.Common.{◌<◌, ◌∙◌, ap, arith, get_or, length, set}
use Rattle.std.proofs.lemmas.List.{get_or_default}
use Rattle.std.proofs.lemmas.List.Edits.{map_over_more}
use Rattle.branch_rules.specs.declared.node.Node.{Node}
use Rattle.branch_rules.specs.declared.node.Node.TheVariants as nodes
use Rattle.grown_trees.specs.declared.growing.GrowingNode.{GrowingNode}
use Rattle.tree_transfer.specs.Named.{renumbered_entry}
use Rattle.tree_transfer.specs.Naming.{number_in}
use Rattle.tree_transfer.proofs.naming.renumber.Goals as goal

pub loop-entry-preserved : goal.loop-entry-preserved
loop-entry-preserved c =
    let i = c.loop-entry.entry-index in
    let other : GrowingNode = record { node = nodes.Pair 0 0; shows = 0 } in
    let entry = get_or c.loop-entry.nodes i other in
    let less : i < length c.args.nodes.now = omega (arith, c.loop-entry-test.true, c.loop-entry.auto.entry-index-end) in
    let there : i < length c.loop-entry.nodes = omega (arith, less, c.loop-entry.auto.nodes) in
    ap (λ (node : Node). set c.loop-entry.nodes i (record { node = node; shows = entry.shows })) c.renumbered_node-entry.ensures
    ∙ map_over_more (renumbered_entry (number_in c.args.numbers.now)) c.args.nodes.now c.loop-entry.nodes i entry less c.loop-entry.invariant (get_or_default c.loop-entry.nodes i other entry there)
