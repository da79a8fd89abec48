use Rattle.dual_master.proofs.SmallNumbers.{town_join, join_reached, join_missed, join_shown, join_passed}
use Rattle.dual_master.proofs.floor_examples.a_least_join.Goals as goal

pub returns-clause-least : goal.returns-clause-least
returns-clause-least c = town_join

pub returns-clause-reached : goal.returns-clause-reached
returns-clause-reached c = join_reached

pub returns-clause-missed : goal.returns-clause-missed
returns-clause-missed c = join_missed

pub returns-clause-shown : goal.returns-clause-shown
returns-clause-shown c = join_shown

pub returns-clause-passed : goal.returns-clause-passed
returns-clause-passed c = join_passed
