use Rattle.tight_prices.proofs.Small.{heavy_not, low_not, town_tight}
use Rattle.tight_prices.proofs.examples.a_tight_set.Goals as goal

pub returns-clause-tight : goal.returns-clause-tight
returns-clause-tight c = town_tight

pub returns-clause-price : goal.returns-clause-price
returns-clause-price c = low_not

pub returns-clause-too_heavy : goal.returns-clause-too_heavy
returns-clause-too_heavy c = heavy_not
