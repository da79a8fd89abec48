use Rattle.group_plans.proofs.Packed.{plan_packed}
use Rattle.group_plans.proofs.laws.plans_are_packings.Goals as goal

pub returns : goal.returns
returns c = plan_packed c.required_edges_are_served_once.ensures.by_number
