use Rattle.std.proofs.Common.{◌≤◌, arith}
use Rattle.tree_transfer.proofs.Small.{crossed_now, fixed_shows_none, high_again_shows, high_shows, not_void, waste_value}
use Rattle.tree_transfer.proofs.carried_examples.what_leaves_would_show.Goals as goal

pub returns-clause-price : goal.returns-clause-price
returns-clause-price c = high_shows

pub returns-clause-void : goal.returns-clause-void
returns-clause-void c = crossed_now

pub returns-clause-not_void : goal.returns-clause-not_void
returns-clause-not_void c = not_void

pub returns-clause-fixed : goal.returns-clause-fixed
returns-clause-fixed c = fixed_shows_none

pub returns-clause-its_value : goal.returns-clause-its_value
returns-clause-its_value c = λ is. let most : 1 ≤ 0 = is.enough 0 waste_value in absurd (omega (arith, most))

pub returns-clause-void_is_not_fixed : goal.returns-clause-void_is_not_fixed
returns-clause-void_is_not_fixed c = λ is. is.settled.open_yet crossed_now

pub returns-clause-split : goal.returns-clause-split
returns-clause-split c = (crossed_now, high_again_shows)
