use Rattle.task_tours.proofs.PlanCosts.{cost_little}
use Rattle.task_tours.proofs.short_laws.short_plans_cost_little.Goals as goal

pub returns : goal.returns
returns c = cost_little
