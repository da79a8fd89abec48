use Rattle.cut_pool.proofs.Crossing.{need_law}
use Rattle.cut_pool.specs.Shores.{is_in}
use Rattle.cut_pool.proofs.laws.need_is_met.Goals as goal

pub returns-clause-sets : goal.returns-clause-sets
returns-clause-sets c = need_law c.required_edges_are_served_once.ensures.by_edge

pub returns-clause-shores : goal.returns-clause-shores
returns-clause-shores c = λ p shore plan valid lawful is. need_law c.required_edges_are_served_once.ensures.by_edge p (is_in shore) plan valid lawful is.no_depot
