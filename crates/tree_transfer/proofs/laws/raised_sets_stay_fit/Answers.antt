use Rattle.tree_transfer.proofs.Fitting.{deadheads_stay, sets_stay}
use Rattle.tree_transfer.proofs.laws.raised_sets_stay_fit.Goals as goal

pub returns-clause-deadheads : goal.returns-clause-deadheads
returns-clause-deadheads c = deadheads_stay

pub returns-clause-fit : goal.returns-clause-fit
returns-clause-fit c = sets_stay c.least_prices_are_there.ensures.tasks
