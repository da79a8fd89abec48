use Rattle.dual_master.proofs.Better.{better_law}
use Rattle.dual_master.proofs.floor_laws.better_sets_reach_as_much.Goals as goal

pub returns : goal.returns
returns c = better_law
