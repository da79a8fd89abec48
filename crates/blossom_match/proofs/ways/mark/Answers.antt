use Rattle.std.proofs.Common.{◌≡◌, arith, length, Some}
use Rattle.std.proofs.Math.ListN.{length-set}
use Rattle.blossom_match.proofs.Climbing.{marked_first, marked_more}
use Rattle.blossom_match.proofs.ways.mark.Goals as goal

pub loop-node-init : goal.loop-node-init
loop-node-init c =
    marked_first c.args.top.now c.args.entry.now (length c.args.entry.now) c.args.from c.args.root c.forget.new.way c.requires.up (omega (arith, c.requires.entries, c.forget.auto.way)) c.forget.ensures

pub loop-node-preserved : goal.loop-node-preserved
loop-node-preserved c =
    let long : length c.args.entry.now ≡ length c.loop-node.way = omega (arith, c.requires.entries, c.forget.auto.way, c.loop-node.auto.way, length-set c.forget.new.way c.args.from (Some 0)) in
    (marked_more c.args.top.now c.args.entry.now (length c.args.entry.now) c.args.from c.args.root c.loop-node.way c.loop-node.node c.loop-node.steps long c.loop-node.invariant c.loop-node-test.true).0

pub loop-node-smaller : goal.loop-node-smaller
loop-node-smaller c =
    let long : length c.args.entry.now ≡ length c.loop-node.way = omega (arith, c.requires.entries, c.forget.auto.way, c.loop-node.auto.way, length-set c.forget.new.way c.args.from (Some 0)) in
    (marked_more c.args.top.now c.args.entry.now (length c.args.entry.now) c.args.from c.args.root c.loop-node.way c.loop-node.node c.loop-node.steps long c.loop-node.invariant c.loop-node-test.true).1
