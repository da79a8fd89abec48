use Rattle.dual_master.proofs.SmallNumbers.{town_ratio, no_dearer_ratio, ratio_reached, ratio_missed, ratio_shown, ratio_passed, no_ratio_shown}
use Rattle.dual_master.proofs.floor_examples.a_least_ratio.Goals as goal

pub returns-clause-least : goal.returns-clause-least
returns-clause-least c = town_ratio

pub returns-clause-dearer : goal.returns-clause-dearer
returns-clause-dearer c = no_dearer_ratio

pub returns-clause-reached : goal.returns-clause-reached
returns-clause-reached c = ratio_reached

pub returns-clause-missed : goal.returns-clause-missed
returns-clause-missed c = ratio_missed

pub returns-clause-shown : goal.returns-clause-shown
returns-clause-shown c = ratio_shown

pub returns-clause-passed : goal.returns-clause-passed
returns-clause-passed c = ratio_passed

pub returns-clause-none : goal.returns-clause-none
returns-clause-none c = no_ratio_shown
