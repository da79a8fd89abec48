use Rattle.std.proofs.Common.{◌<◌, ◌+◌, ◌*◌, arith, length}
use Rattle.blossom_match.specs.Ways.{on_cycle}
use Rattle.blossom_match.proofs.Cells.{cell_in}
use Rattle.blossom_match.proofs.Gathering.{taken_more}
use Rattle.blossom_match.proofs.gather.take_members.Goals as goal

pub loop-v-preserved : goal.loop-v-preserved
loop-v-preserved c =
    let v_in : c.loop-v.v < length c.args.top.now = omega (arith, c.loop-v-test.true) in
    let in_now : c.loop-v.v < length c.loop-v.top = omega (arith, v_in, c.loop-v.auto.top) in
    let cell : c.args.whole * length c.args.top.now + c.loop-v.v < length c.loop-v.held =
    omega (arith, cell_in (length c.args.top.now) (2 * length c.args.top.now) c.args.whole c.loop-v.v c.requires.whole_in v_in, c.requires.held_len, c.loop-v.auto.held) in
    taken_more c.args.top.now c.loop-v.top c.args.held.now c.loop-v.held (on_cycle c.args.one.now c.args.other.now c.args.join.one c.args.join.other) c.args.whole (length c.args.top.now) c.loop-v.v
    c.node_of.result c.is_on-inside.result c.loop-v.invariant v_in in_now cell c.is_on-inside.ensures c.node_of.ensures
