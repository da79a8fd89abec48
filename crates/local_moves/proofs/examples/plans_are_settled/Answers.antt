use Rattle.task_tours.specs.Tours.{plan_tours}
use Rattle.local_moves.proofs.Small.{detour_is_dear, none_changed}
use Rattle.local_moves.proofs.examples.plans_are_settled.Goals as goal

pub returns-clause-nothing : goal.returns-clause-nothing
returns-clause-nothing c = λ other lawful change. absurd (none_changed (plan_tours other) change)

pub returns-clause-detour : goal.returns-clause-detour
returns-clause-detour c = detour_is_dear
