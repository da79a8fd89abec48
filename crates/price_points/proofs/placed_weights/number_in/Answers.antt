use Rattle.std.proofs.Common.{subst}
use Rattle.std.specs.Result.{IsOkAnd}
use Rattle.cut_pool.specs.Pools.{IsHeldAs}
use Rattle.price_points.proofs.Placed.{after_belongs, after_grows, after_holds}
use Rattle.price_points.proofs.placed_weights.number_in.Goals as goal

pub returns-in-Ok-clause-grown : goal.returns-in-Ok-clause-grown
returns-in-Ok-clause-grown c = after_grows c.args.pool.now c.add.new.self c.args.shore (record { old = λ there. (c.add.ensures.held there).1; new = λ new. (c.in-Ok.ensures.placed new).1 })

pub returns-in-Ok-clause-belong : goal.returns-in-Ok-clause-belong
returns-in-Ok-clause-belong c =
    after_belongs c.args.inst.now c.args.pool.now c.add.new.self c.args.shore
    (record { old = λ there. (c.add.ensures.held there).1; new = λ new. (c.in-Ok.ensures.placed new).1 }) c.requires.shore c.requires.belong

pub returns-in-Ok-clause-held : goal.returns-in-Ok-clause-held
returns-in-Ok-clause-held c =
    after_holds c.args.pool.now c.add.new.self c.args.shore c.in-Ok.number (record { old = λ there. (c.add.ensures.held there).1; new = λ new. (c.in-Ok.ensures.placed new).1 })
    (λ there. subst (λ r. IsOkAnd r (IsHeldAs c.args.pool.now c.args.shore)) c.in-Ok.is (c.add.ensures.held there).0) (λ new. (c.in-Ok.ensures.placed new).0)
