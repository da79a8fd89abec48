use Rattle.tight_prices.proofs.Small.{lighter}
use Rattle.tight_prices.proofs.examples.sets_of_which_one_is_no_higher.Goals as goal

pub returns-clause-higher : goal.returns-clause-higher
returns-clause-higher c = lighter
