use Rattle.tight_prices.proofs.Small.{held_only, not_kept}
use Rattle.tight_prices.proofs.examples.weights_that_stay.Goals as goal

pub returns-clause-held : goal.returns-clause-held
returns-clause-held c = held_only

pub returns-clause-not_held : goal.returns-clause-not_held
returns-clause-not_held c = not_kept
