use Rattle.std.proofs.Common.{arith}
use Rattle.tree_transfer.specs.Bounding.{support_in}
use Rattle.tree_transfer.proofs.Nodes.{bounds_all, bounds_none}
use Rattle.tree_transfer.proofs.bounding.least_shown.Goals as goal

pub loop-place-init : goal.loop-place-init
loop-place-init c =
    let s = support_in c.args.given.now in
    bounds_none s c.args.tree.now.nodes c.new-path.result c.requires.shows c.new-path.ensures.path (c.new-path.ensures.inside s) c.new-path.ensures.waits

pub returns : goal.returns
returns c =
    bounds_all (support_in c.args.given.now) c.args.tree.now.nodes c.loop-place.place c.loop-place.path c.loop-place.least (omega (arith, c.loop-place-test.false, c.len-place-end.ensures)) c.loop-place.invariant
