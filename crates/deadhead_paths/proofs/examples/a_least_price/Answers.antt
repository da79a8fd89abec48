use Rattle.std.proofs.Common.{[], ◌∷◌, arith}
use Rattle.deadhead_paths.specs.Examples.{homeward}
use Rattle.deadhead_paths.proofs.Small.{back_again, some_price, way_back}
use Rattle.deadhead_paths.proofs.examples.a_least_price.Goals as goal

pub returns-clause-least : goal.returns-clause-least
returns-clause-least c = way_back

pub returns-clause-dearer : goal.returns-clause-dearer
returns-clause-dearer c = λ price. omega (arith, price.least 5 (homeward ∷ []) back_again)

pub returns-clause-cheaper : goal.returns-clause-cheaper
returns-clause-cheaper c = λ price. omega (arith, some_price 0 price.steps price.reached)
