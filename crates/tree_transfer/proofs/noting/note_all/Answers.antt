use Rattle.std.proofs.Common.{arith}
use Rattle.tree_transfer.specs.Bounding.{support_in}
use Rattle.tree_transfer.proofs.Entries.{notes_all, notes_none}
use Rattle.tree_transfer.proofs.noting.note_all.Goals as goal

pub loop-place-init : goal.loop-place-init
loop-place-init c =
    let s = support_in c.args.given.now in
    notes_none s c.args.tree.now.nodes c.new-path.result _ c.in_ok-entries.ensures.items c.requires.shows c.new-path.ensures.path (c.new-path.ensures.inside s) c.new-path.ensures.waits

pub returns : goal.returns
returns c =
    notes_all (support_in c.args.given.now) c.args.tree.now.nodes c.loop-place.place c.loop-place.path c.loop-place.entries.items (omega (arith, c.loop-place-test.false, c.len-place-end.ensures)) c.loop-place.invariant
