use Rattle.std.proofs.Common.{arith}
use Rattle.flow_cut.proofs.Ways.{total_fits, value_in}
use Rattle.flow_cut.proofs.paths.augment.Goals as goal

pub overflow_add-value : goal.overflow_add-value
overflow_add-value c =
    let arcs = c.args.arcs.now in
    let e = c.args.ends in
    let brings = c.send-full.ensures.brings c.args.value.now c.requires.brings in
    omega (arith, value_in arcs e.source e.target _ c.send-full.new.flows c.requires.apart brings, total_fits e.nodes arcs c.requires.network, c.from.ensures)

pub returns-clause-brings : goal.returns-clause-brings
returns-clause-brings c = rw c.from.ensures (c.send-full.ensures.brings c.args.value.now c.requires.brings)
