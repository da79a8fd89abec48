use Rattle.std.proofs.Common.{rules, ◌≢◌, ◌<◌, length}
use Rattle.dual_master.proofs.PlacedSingles.{tried_by_add}
use Rattle.dual_master.proofs.singles.place_single.Goals as goal

pub returns-in-Ok-clause-ok : goal.returns-in-Ok-clause-ok
returns-in-Ok-clause-ok c =
    let p = c.args.inst.now in
    let other : c.args.v ≢ p.depot = search rules in
    let room : length c.args.pool.now < 2000 = search rules in
    tried_by_add p c.args.pool.now c.add.new.self c.args.v c.in_ok-shore.shore c.in_ok-shore.ensures other (search rules) room (λ there. (c.add.ensures.held there).1)
    (λ new. (c.in-Ok.ensures.placed new).1)
