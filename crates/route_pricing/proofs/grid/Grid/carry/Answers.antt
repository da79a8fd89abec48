use Rattle.route_pricing.proofs.Marking.{carries_more}
use Rattle.route_pricing.proofs.grid.Grid.carry.Goals as goal

pub loop-found-preserved : goal.loop-found-preserved
loop-found-preserved c =
    let one = c.sweep-found.ensures in
    record {
      on = carries_more c.args.self.now c.args.layer.now c.loop-found.layer c.sweep-found.new.layer c.loop-found.invariant.on one.on;
      marks = one.marks;
      marked = one.marked;
      settled = one.settled;
    }

pub returns-clause-settled : goal.returns-clause-settled
returns-clause-settled c = c.loop-found.invariant.settled c.loop-found-test.false
