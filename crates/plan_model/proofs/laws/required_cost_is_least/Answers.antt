use Rattle.plan_model.proofs.Services.{required_cost_law}
use Rattle.plan_model.proofs.laws.required_cost_is_least.Goals as goal

pub returns : goal.returns
returns c = λ p valid plan lawful. required_cost_law p plan valid lawful
