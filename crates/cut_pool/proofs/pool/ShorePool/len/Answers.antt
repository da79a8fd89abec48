use Rattle.cut_pool.proofs.Held.{different}
use Rattle.cut_pool.proofs.pool.ShorePool.len.Goals as goal

pub returns-clause-different : goal.returns-clause-different
returns-clause-different c = rw (← c.self.view_is) (different c.self.inside.shores.keys c.len.ensures.unique)
