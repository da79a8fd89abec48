use Rattle.std.proofs.Common.{[], refl}
use Rattle.deadhead_paths.proofs.examples.a_task_tour.Goals as goal

pub returns-clause-not_allowed : goal.returns-clause-not_allowed
returns-clause-not_allowed c = λ tour. tour.each_allowed 1 1 (record { before = []; after = []; joined = refl }) refl
