use Rattle.std.proofs.Common.{◌≤◌, arith}
use Rattle.tree_transfer.proofs.Small.{fixed_shows_none, root_shows, waste_value}
use Rattle.tree_transfer.proofs.carried_examples.trees_that_show.Goals as goal

pub returns-clause-shows : goal.returns-clause-shows
returns-clause-shows c = record { pairs = tt; lean = tt; shows = root_shows }

pub returns-clause-would : goal.returns-clause-would
returns-clause-would c = record { pairs = tt; lean = tt; shows = fixed_shows_none }

pub returns-clause-would_less : goal.returns-clause-would_less
returns-clause-would_less c = λ is. let most : 1 ≤ 0 = is.shows.enough 0 waste_value in absurd (omega (arith, most))
