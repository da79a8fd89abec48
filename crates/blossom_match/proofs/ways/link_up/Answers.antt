use Rattle.std.proofs.Common.{refl, arith, length}
use Rattle.blossom_match.proofs.Climbing.{climb_on, up_more}
use Rattle.blossom_match.proofs.ways.link_up.Goals as goal

pub loop-k-preserved : goal.loop-k-preserved
loop-k-preserved c = record {
  at = climb_on c.args.top.now c.args.entry.now c.loop-k.k c.args.from c.loop-k.node c.loop-k.invariant.at;
  linked = up_more c.args.top.now c.args.entry.now c.args.from c.args.steps c.loop-k.k c.loop-k.node (length c.args.next.now) c.args.next.now c.loop-k.next c.args.link.now c.loop-k.link _
      c.requires.trail c.loop-k-test.true (omega (arith, c.loop-k.auto.next)) (omega (arith, c.loop-k.auto.link, c.requires.links)) c.loop-k.invariant.at refl c.loop-k.invariant.linked;
}
