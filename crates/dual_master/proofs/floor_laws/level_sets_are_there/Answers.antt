use Rattle.dual_master.proofs.Levels.{levels_law}
use Rattle.dual_master.proofs.floor_laws.level_sets_are_there.Goals as goal

pub returns : goal.returns
returns c = levels_law c.least_prices_are_there.ensures.found
