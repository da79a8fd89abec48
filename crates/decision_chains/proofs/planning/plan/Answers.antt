use Rattle.decision_chains.proofs.PlanParts.{whole_lawful, whole_value}
use Rattle.decision_chains.proofs.planning.plan.Goals as goal

pub returns-clause-lawful : goal.returns-clause-lawful
returns-clause-lawful c = whole_lawful c.args.chains.now c.tours.new.marks c.in_ok-plan.plan c.in_ok-plan.ensures c.required.ensures.valid c.plans_are_tours.ensures.lawful

pub returns-clause-fixed : goal.returns-clause-fixed
returns-clause-fixed c = whole_value c.args.chains.now c.tours.new.marks c.in_ok-plan.plan c.in_ok-plan.ensures
