use Rattle.std.proofs.Common.{ap, ◌∙◌}
use Rattle.std.proofs.lemmas.Result.{IfOk-weaker}
use Rattle.group_plans.specs.Groups.{gathered}
use Rattle.group_plans.proofs.GroupTasks.{serves_group}
use Rattle.group_plans.proofs.gathering.group_tasks.Goals as goal

pub returns-clause-serves : goal.returns-clause-serves
returns-clause-serves c = IfOk-weaker c.gather.result _ _ (λ tasks. serves_group c.args.inst.now c.args.groups.now c.args.group c.requires tasks.items) c.gather.ensures

pub returns-clause-order : goal.returns-clause-order
returns-clause-order c = IfOk-weaker c.gather.result _ _ (λ tasks is. is ∙ ap (gathered c.args.groups.now c.args.group) c.requires) c.gather.ensures
