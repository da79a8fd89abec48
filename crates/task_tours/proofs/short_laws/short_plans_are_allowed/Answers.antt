use Rattle.std.proofs.Common.{arith}
use Rattle.task_tours.proofs.short_laws.short_plans_are_allowed.Goals as goal

pub returns : goal.returns
returns c p plan valid short = record { lawful = short.lawful; few_tours = omega (arith, short.few_tours, valid.few_required); few_steps = short.few_steps }
