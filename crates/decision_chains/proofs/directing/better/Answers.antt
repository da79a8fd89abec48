use Rattle.std.proofs.Common.{arith}
use Rattle.decision_chains.proofs.Choices.{forward_best, backward_best}
use Rattle.decision_chains.proofs.directing.better.Goals as goal

pub returns-then-out-back-clause-best : goal.returns-then-out-back-clause-best
returns-then-out-back-clause-best c = λ edges after.
    let out = rw (c.ends.ensures.tail, c.task.ensures.edge, c.task.ensures.forward) at c.least_cost.ensures.least in
    let back = rw (c.ends-2.ensures.tail, c.task-2.ensures.edge, c.task-2.ensures.forward) at c.least_cost-2.ensures.least in
    forward_best c.args.inst.now c.args.at c.args.edge edges c.args.left after c.least_cost.result c.least_cost-2.result out back c.if-out-back.true

pub returns-else-out-back-clause-best : goal.returns-else-out-back-clause-best
returns-else-out-back-clause-best c = λ edges after.
    let out = rw (c.ends.ensures.tail, c.task.ensures.edge, c.task.ensures.forward) at c.least_cost.ensures.least in
    let back = rw (c.ends-2.ensures.tail, c.task-2.ensures.edge, c.task-2.ensures.forward) at c.least_cost-2.ensures.least in
    backward_best c.args.inst.now c.args.at c.args.edge edges c.args.left after c.least_cost.result c.least_cost-2.result out back (omega (arith, c.if-out-back.false))
