use Rattle.std.proofs.Common.{◌≤◌, arith}
use Rattle.branch_tree.proofs.Taking.{no_entry}
use Rattle.branch_tree.proofs.examples.leaves_that_show_the_cost.Goals as goal

pub returns-clause-but_one : goal.returns-clause-but_one
returns-clause-but_one c = λ all. let it : 9 ≤ 8 = all 2 no_entry (omega arith) in omega (arith, it)
