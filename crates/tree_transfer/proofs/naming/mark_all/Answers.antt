use Rattle.std.proofs.Common.{◌+◌, ◌<◌, Bool, List, arith, get_or, length, subst, sym, take}
use Rattle.std.proofs.lemmas.List.{get_or_default}
use Rattle.branch_rules.specs.declared.node.Node.TheVariants as nodes
use Rattle.grown_trees.specs.declared.growing.GrowingNode.{GrowingNode}
use Rattle.tree_transfer.specs.Naming.{AreMarked}
use Rattle.tree_transfer.proofs.Marks.{mark_more}
use Rattle.tree_transfer.proofs.naming.mark_all.Goals as goal

pub loop-entry-preserved : goal.loop-entry-preserved
loop-entry-preserved c =
    let entries = c.args.nodes.now in
    let i = c.loop-entry.entry-index in
    let other : GrowingNode = record { node = nodes.Pair 0 0; shows = 0 } in
    let entry = get_or entries i other in
    let less : i < length entries = omega (arith, c.loop-entry-test.true, c.loop-entry.auto.entry-index-end) in
    subst (λ (marks : List Bool). AreMarked (take (i + 1) entries) (length c.args.marks.now) marks) (sym c.mark.ensures)
    (mark_more (length c.args.marks.now) entries i entry c.loop-entry.marks c.loop-entry.invariant less (get_or_default entries i other entry less) (c.requires.spelled i other less))
