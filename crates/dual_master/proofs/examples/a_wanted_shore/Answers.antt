use Rattle.dual_master.proofs.Small.{wanted, held, depot}
use Rattle.dual_master.proofs.examples.a_wanted_shore.Goals as goal

pub returns-clause-wanted : goal.returns-clause-wanted
returns-clause-wanted c = wanted

pub returns-clause-held : goal.returns-clause-held
returns-clause-held c = held

pub returns-clause-depot : goal.returns-clause-depot
returns-clause-depot c = depot
