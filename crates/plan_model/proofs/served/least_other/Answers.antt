use Rattle.std.proofs.Common.{arith}
use Rattle.std.proofs.lemmas.List.{take_all}
use Rattle.plan_model.proofs.Tallies.{least_walk}
use Rattle.plan_model.proofs.served.least_other.Goals as goal

pub loop-tour-preserved : goal.loop-tour-preserved
loop-tour-preserved c = rw c.smaller-least.ensures (least_walk c.args.inst.now c.args.plan.now c.loop-tour.tour c.walk.result.now c.loop-tour.least c.least_other_in.result
    (omega arith) c.walk.ensures.value c.loop-tour.invariant c.least_other_in.ensures)

pub returns-clause-least : goal.returns-clause-least
returns-clause-least c = rw (take_all c.loop-tour.tour c.args.plan.now (omega arith)) at c.loop-tour.invariant
