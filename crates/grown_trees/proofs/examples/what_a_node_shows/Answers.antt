use Rattle.std.proofs.Common.{◌≤◌, arith}
use Rattle.grown_trees.proofs.examples.what_a_node_shows.Goals as goal

pub returns-clause-inner_shows_more : goal.returns-clause-inner_shows_more
returns-clause-inner_shows_more c = λ is. let most : 6 ≤ 5 = (is 6 (omega arith)).0 tt in absurd (omega (arith, most))
