use Rattle.dual_master.proofs.SmallNumbers.{shell_reached, shell_missed, shell_shown, shell_passed}
use Rattle.dual_master.proofs.floor_examples.a_level_set.Goals as goal

pub returns-clause-reached : goal.returns-clause-reached
returns-clause-reached c = shell_reached c.shells_are_duals.ensures.weigh

pub returns-clause-missed : goal.returns-clause-missed
returns-clause-missed c = shell_missed c.shells_are_duals.ensures.weigh

pub returns-clause-shown : goal.returns-clause-shown
returns-clause-shown c = shell_shown c.shells_are_duals.ensures.weigh

pub returns-clause-passed : goal.returns-clause-passed
returns-clause-passed c = shell_passed c.shells_are_duals.ensures.weigh
