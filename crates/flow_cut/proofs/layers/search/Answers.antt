use Rattle.std.proofs.Common.{arith}
use Rattle.flow_cut.proofs.Searching.{closed_at_end}
use Rattle.flow_cut.proofs.layers.search.Goals as goal

pub returns-after-loop-place-clause-closed : goal.returns-after-loop-place-clause-closed
returns-after-loop-place-clause-closed c = λ ended.
    let l = c.loop-place.layers in
    closed_at_end c.args.arcs.now c.args.flows.now l.level.items c.loop-place.queue.items c.loop-place.place (omega arith) c.loop-place.invariant.pending
