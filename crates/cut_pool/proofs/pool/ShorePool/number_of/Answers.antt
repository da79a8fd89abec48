use Rattle.std.proofs.Common.{sym}
use Rattle.cut_pool.proofs.Held.{held_where_found, not_held}
use Rattle.cut_pool.proofs.pool.ShorePool.number_of.Goals as goal

pub returns-in_err-place : goal.returns-in_err-place
returns-in_err-place c = rw (c.from_residual.ensures, ← c.self.view_is) (not_held c.self.inside.shores.keys c.args.s.now (sym c.in_err-place.ensures.found))

pub returns : goal.returns
returns c = rw (← c.self.view_is) (held_where_found c.self.inside.shores.keys c.args.s.now c.in_ok-place.place c.in_ok-place.ensures.index)
