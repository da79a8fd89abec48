use Rattle.plan_model.proofs.Services.{served_once, served_once_at}
use Rattle.plan_model.proofs.Crossings.{served_by_one_step}
use Rattle.plan_model.proofs.laws.required_edges_are_served_once.Goals as goal

pub returns-clause-by_number : goal.returns-clause-by_number
returns-clause-by_number c = served_once

pub returns-clause-by_edge : goal.returns-clause-by_edge
returns-clause-by_edge c = served_once_at

pub returns-clause-one_step : goal.returns-clause-one_step
returns-clause-one_step c = served_by_one_step
