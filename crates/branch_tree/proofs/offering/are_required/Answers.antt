use Rattle.std.proofs.Common.{arith, false, subst}
use Rattle.std.specs.List.{All}
use Rattle.carp_base.specs.Problem.{IsRequired}
use Rattle.carp_base.specs.declared.edge.Task.{Task}
use Rattle.std.proofs.lemmas.List.{take_all}
use Rattle.std.proofs.lemmas.List.Elements.{All-more}
use Rattle.branch_tree.proofs.offering.are_required.Goals as goal

pub loop-task-preserved : goal.loop-task-preserved
loop-task-preserved c =
    All-more (λ (t : Task). IsRequired c.args.inst.now t.edge) c.args.tasks.now c.loop-task.task-index (record { edge = 0; forward = false }) c.loop-task-test.true c.loop-task.invariant
    (record { from_one = omega arith; in_range = omega arith })

pub returns : goal.returns
returns c = λ yes_true. subst (All (λ (t : Task). IsRequired c.args.inst.now t.edge)) (take_all c.loop-task.task-index c.args.tasks.now c.loop-task-test.false) c.loop-task.invariant
