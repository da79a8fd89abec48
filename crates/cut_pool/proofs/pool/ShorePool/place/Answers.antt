use Rattle.std.proofs.Common.{◌∙◌}
use Rattle.cut_pool.proofs.Held.{placed_last}
use Rattle.cut_pool.proofs.pool.ShorePool.place.Goals as goal

pub returns-clause-ok : goal.returns-clause-ok
returns-clause-ok c =
    let new = rw (← c.self.view_is) at c.requires.new in
    rw (← c.self.view_is) (c.in_ok-insert.ensures.keys ∙ placed_last c.self.inside.shores.keys c.args.s new)
