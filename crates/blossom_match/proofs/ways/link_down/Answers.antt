use Rattle.std.proofs.Common.{arith, length}
use Rattle.blossom_match.proofs.Climbing.{above_in, climb_on, down_more}
use Rattle.blossom_match.proofs.ways.link_down.Goals as goal

pub loop-k-preserved : goal.loop-k-preserved
loop-k-preserved c = record {
  at = climb_on c.args.top.now c.args.entry.now c.loop-k.k c.args.from c.loop-k.node c.loop-k.invariant.at;
  linked = down_more c.args.top.now c.args.entry.now c.args.from c.args.steps c.loop-k.k c.loop-k.node (length c.args.next.now) c.args.next.now c.loop-k.next c.args.link.now c.loop-k.link c.reversed.result
      c.requires.trail c.loop-k-test.true (omega (arith, c.loop-k.auto.next)) (omega (arith, c.loop-k.auto.link, c.requires.links)) c.loop-k.invariant.at
      c.reversed.ensures c.loop-k.invariant.linked;
}

pub offset_bounds-next-above : goal.offset_bounds-next-above
offset_bounds-next-above c = omega (arith, above_in c.args.top.now c.args.entry.now c.args.from c.args.steps c.loop-k.k c.loop-k.node (length c.args.next.now) c.requires.trail c.loop-k-test.true c.loop-k.invariant.at)

pub bounds-next-above : goal.bounds-next-above
bounds-next-above c = omega (arith, above_in c.args.top.now c.args.entry.now c.args.from c.args.steps c.loop-k.k c.loop-k.node (length c.args.next.now) c.requires.trail c.loop-k-test.true c.loop-k.invariant.at)

pub offset_bounds-link-above : goal.offset_bounds-link-above
offset_bounds-link-above c = omega (arith, above_in c.args.top.now c.args.entry.now c.args.from c.args.steps c.loop-k.k c.loop-k.node (length c.args.next.now) c.requires.trail c.loop-k-test.true c.loop-k.invariant.at)

pub bounds-link-above : goal.bounds-link-above
bounds-link-above c = omega (arith, above_in c.args.top.now c.args.entry.now c.args.from c.args.steps c.loop-k.k c.loop-k.node (length c.args.next.now) c.requires.trail c.loop-k-test.true c.loop-k.invariant.at)
