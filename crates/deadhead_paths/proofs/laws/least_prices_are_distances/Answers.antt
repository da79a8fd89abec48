use Rattle.deadhead_paths.proofs.TaskTours.{staying, symmetric, triangle}
use Rattle.deadhead_paths.proofs.laws.least_prices_are_distances.Goals as goal

pub returns-clause-symmetric : goal.returns-clause-symmetric
returns-clause-symmetric c = symmetric

pub returns-clause-triangle : goal.returns-clause-triangle
returns-clause-triangle c = triangle

pub returns-clause-staying : goal.returns-clause-staying
returns-clause-staying c = staying
