use Rattle.dual_master.proofs.SmallNumbers.{empty_not, join_made, join_wholes, nothing_made, ratio_made, ratio_unshared, shell_made, shell_weightless}
use Rattle.dual_master.proofs.floor_examples.sets_that_are_made.Goals as goal

pub returns-clause-shell : goal.returns-clause-shell
returns-clause-shell c = shell_made

pub returns-clause-weightless : goal.returns-clause-weightless
returns-clause-weightless c = shell_weightless

pub returns-clause-join : goal.returns-clause-join
returns-clause-join c = join_made

pub returns-clause-wholes : goal.returns-clause-wholes
returns-clause-wholes c = join_wholes

pub returns-clause-ratio : goal.returns-clause-ratio
returns-clause-ratio c = ratio_made

pub returns-clause-unshared : goal.returns-clause-unshared
returns-clause-unshared c = ratio_unshared

pub returns-clause-nothing : goal.returns-clause-nothing
returns-clause-nothing c = nothing_made

pub returns-clause-empty : goal.returns-clause-empty
returns-clause-empty c = empty_not
