use Rattle.route_pricing.proofs.Marking.{taken_marked}
use Rattle.route_pricing.proofs.grid.Grid.visit.Goals as goal

pub returns-clause-marked : goal.returns-clause-marked
returns-clause-marked c = c.leave.ensures.marked (taken_marked c.args.self.now c.requires.grid c.args.layer.now c.args.marks.now c.args.vertex c.requires.marked)
