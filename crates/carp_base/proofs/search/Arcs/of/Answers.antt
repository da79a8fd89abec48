use Rattle.std.proofs.Common.{◌<◌, length, arith}
use Rattle.std.proofs.lemmas.List.{get_or_read}
use Rattle.carp_base.proofs.Chains.{chains_more}
use Rattle.carp_base.proofs.search.Arcs.of.Goals as goal

pub loop-arc-preserved : goal.loop-arc-preserved
loop-arc-preserved c =
    let starts = c.loop-arc.invariant.starts in
    let within = c.requires.ends c.loop-arc.arc c.loop-arc-test.true in
    let below : c.arc_tail-tail.result < length c.loop-arc.first.items = omega (arith, c.arc_tail-tail.ensures) in
    rw c.in_ok-push.ensures.items
    (chains_more _ _ _ _ _ _ _ c.loop-arc.invariant c.arc_tail-tail.ensures (omega (arith, c.arc_tail-tail.ensures)) (get_or_read c.loop-arc.first.items _ _ below c.index.ensures 0))
