use Rattle.dual_master.proofs.Small.{placed, left_out, not_first, pool, overvalued}
use Rattle.dual_master.proofs.examples.shores_of_single_vertices.Goals as goal

pub returns-clause-placed : goal.returns-clause-placed
returns-clause-placed c = placed

pub returns-clause-left_out : goal.returns-clause-left_out
returns-clause-left_out c = left_out

pub returns-clause-not_first : goal.returns-clause-not_first
returns-clause-not_first c = not_first

pub returns-clause-pool : goal.returns-clause-pool
returns-clause-pool c = pool

pub returns-clause-overvalued : goal.returns-clause-overvalued
returns-clause-overvalued c = overvalued
