use Rattle.std.proofs.Common.{ap, inr, true, false}
use Rattle.task_tours.proofs.stands.ends.Goals as goal

pub returns-then-task-clause-tail_stands : goal.returns-then-task-clause-tail_stands
returns-then-task-clause-tail_stands c = inr (record { edge = c.args.task.edge; forward = false }, c.requires, ap (λ x. x.u) c.edge-edge.ensures)

pub returns-else-task-clause-tail_stands : goal.returns-else-task-clause-tail_stands
returns-else-task-clause-tail_stands c = inr (record { edge = c.args.task.edge; forward = true }, c.requires, ap (λ x. x.v) c.edge-edge.ensures)
