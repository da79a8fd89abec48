use Rattle.std.proofs.Common.{◌-◌, ◌<◌, arith}
use Rattle.flow_cut.specs.Residual.{total_room}
use Rattle.flow_cut.proofs.Ways.{value_in}
use Rattle.flow_cut.proofs.dinic.send_all.Goals as goal

pub loop-ends-smaller : goal.loop-ends-smaller
loop-ends-smaller c =
    let arcs = c.args.arcs.now in
    let e = c.args.ends in
    let least = value_in arcs e.source e.target c.improve.new.value c.improve.new.flows c.requires.apart c.improve.ensures.brings in
    let less : total_room arcs - c.improve.new.value < total_room arcs - c.loop-ends.value = omega (arith, c.improve.ensures.more, least) in
    less
