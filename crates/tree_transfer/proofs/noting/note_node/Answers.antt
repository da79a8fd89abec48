use Rattle.std.proofs.Common.{◌+◌, List, subst, sym}
use Rattle.branch_rules.specs.Limits.{IsNodeIn}
use Rattle.grown_trees.specs.declared.growing.GrowingNode.{GrowingNode}
use Rattle.tree_transfer.specs.Bounding.{support_in}
use Rattle.tree_transfer.specs.Noting.{NotesAt}
use Rattle.tree_transfer.proofs.Moving.{at_place}
use Rattle.tree_transfer.proofs.Entries.{note_some, notes_on}
use Rattle.tree_transfer.proofs.noting.note_node.Goals as goal

pub shown_by-requires-clause-some : goal.shown_by-requires-clause-some
shown_by-requires-clause-some c =
    note_some (support_in c.args.given.now) c.args.tree.now.nodes c.args.place c.args.path.now c.args.entries.now.items c.requires.at c.requires.place _ _ c.branch-path.ensures c.node-node.ensures

pub returns : goal.returns
returns c =
    subst (λ (entries : List GrowingNode). NotesAt (support_in c.args.given.now) c.args.tree.now.nodes (c.args.place + 1) c.pass.new.self entries) (sym c.in_ok-push.ensures.items)
    (notes_on (support_in c.args.given.now) c.args.tree.now.nodes c.args.place c.args.path.now c.args.entries.now.items c.requires.at c.requires.place c.pass.new.self _ _ c.in_ok-shows.shows
    c.branch-path.ensures c.node-node.ensures c.in_ok-shows.ensures.shown
    c.in_ok-pass.ensures.path
    (c.in_ok-pass.ensures.inside _ c.requires.at.path_in
    (subst (IsNodeIn c.args.given.now.inst.now c.args.given.now.pool.now) (sym c.node-node.ensures)
    (at_place (IsNodeIn c.args.given.now.inst.now c.args.given.now.pool.now) c.args.tree.now.nodes c.args.place c.requires.place c.requires.inside)))
    c.in_ok-pass.ensures.waits)
