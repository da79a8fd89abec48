use Rattle.std.proofs.Common.{arith}
use Rattle.flow_cut.proofs.Pushes.{pushed_forward, pushed_backward, sum_fits}
use Rattle.flow_cut.proofs.residual.push.Goals as goal

pub overflow_add-flows : goal.overflow_add-flows
overflow_add-flows c =
    omega (arith, sum_fits c.args.arcs.now c.args.flows.now c.args.r c.args.amount c.if-r.true c.requires.in_arcs c.requires.rooms c.requires.fine c.requires.fits)

pub returns-then-r : goal.returns-then-r
returns-then-r c =
    pushed_forward c.args.arcs.now c.args.flows.now c.args.r c.args.amount c.if-r.true c.requires.in_arcs c.requires.rooms c.requires.fits

pub returns-else-r : goal.returns-else-r
returns-else-r c =
    pushed_backward c.args.arcs.now c.args.flows.now c.args.r c.args.amount c.if-r.false c.requires.in_arcs c.requires.rooms c.requires.fits
