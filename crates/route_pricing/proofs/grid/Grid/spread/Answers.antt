use Rattle.route_pricing.specs.Partial.{column_task, task_end}
use Rattle.route_pricing.proofs.PartialTours.{column_required, head_reached}
use Rattle.route_pricing.proofs.Copies.{reached_in}
use Rattle.route_pricing.proofs.Passing.{spread_all}
use Rattle.route_pricing.proofs.grid.Grid.spread.Goals as goal

pub returns-clause-spread : goal.returns-clause-spread
returns-clause-spread c =
    let g = c.args.self.now in
    let grid = c.requires.grid in
    spread_all g grid c.args.load c.carry.new.layer c.carry.ensures.on.layer (c.carry.ensures.on.sound c.args.load c.set_layer.ensures.sound)
    (λ d w below reaches.
    let t = column_task d in
    let at = reached_in g.inst (task_end g t) grid.valid (head_reached g.inst t.edge t.forward grid.valid (column_required g grid d below)) in
    c.carry.ensures.on.keeps (task_end g t) t.edge w at.in_range (c.set_layer.ensures.bounds d w below reaches))
    c.carry.ensures.settled
