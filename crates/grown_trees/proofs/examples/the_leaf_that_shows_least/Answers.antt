use Rattle.std.proofs.Common.{◌<◌, ◌≤◌, arith}
use Rattle.grown_trees.specs.Examples.{price_entry}
use Rattle.grown_trees.proofs.examples.the_leaf_that_shows_least.Goals as goal

pub returns-clause-not_the_first : goal.returns-clause-not_the_first
returns-clause-not_the_first c = λ is. let less : 3 < 3 = is.first (price_entry 0 0) 1 (price_entry 0 0) (omega arith) in absurd (omega (arith, less))

pub returns-clause-not_the_least : goal.returns-clause-not_the_least
returns-clause-not_the_least c = λ is. let most : 3 ≤ 1 = is.least (price_entry 0 0) 2 (price_entry 0 0) (omega arith) in absurd (omega (arith, most))

pub returns-clause-shown : goal.returns-clause-shown
returns-clause-shown c = λ is. let less : 1 < 1 = is.not_shown (price_entry 0 0) in absurd (omega (arith, less))
