use Rattle.task_tours.proofs.Deadheads.{joined_cost, cost_above}
use Rattle.task_tours.proofs.Plans.{tours_lawful, lawful_tours}
use Rattle.task_tours.proofs.laws.plans_are_tours.Goals as goal

pub returns-clause-lawful : goal.returns-clause-lawful
returns-clause-lawful c = tours_lawful

pub returns-clause-tours : goal.returns-clause-tours
returns-clause-tours c = lawful_tours

pub returns-clause-cost : goal.returns-clause-cost
returns-clause-cost c = λ p valid plan n lawful paths least. joined_cost p c.required_edges_are_served_once.ensures.by_edge valid c.walks_are_task_tours.ensures.cost plan n lawful paths least

pub returns-clause-least : goal.returns-clause-least
returns-clause-least c = λ p valid plan n lawful least. cost_above p c.required_edges_are_served_once.ensures.by_edge valid c.walks_are_task_tours.ensures.least plan n lawful least
