use Rattle.std.proofs.Common.{◌<◌, arith, length}
use Rattle.blossom_match.specs.Ways.{on_cycle}
use Rattle.blossom_match.proofs.Gathering.{freed_more}
use Rattle.blossom_match.proofs.gather.free_parts.Goals as goal

pub loop-s-preserved : goal.loop-s-preserved
loop-s-preserved c =
    let s_in : c.loop-s.s < length c.loop-s.label = omega (arith, c.loop-s.auto.label, c.loop-s-test.true) in
    freed_more c.args.label.now c.loop-s.label (on_cycle c.args.one.now c.args.other.now c.args.join.one c.args.join.other) c.loop-s.s c.label_of.result _ c.is_on.result c.loop-s.invariant s_in
    c.is_on.ensures c.label_of.ensures
