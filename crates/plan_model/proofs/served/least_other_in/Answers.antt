use Rattle.std.proofs.Common.{arith}
use Rattle.std.proofs.lemmas.List.{take_all}
use Rattle.plan_model.proofs.Tallies.{least_step}
use Rattle.plan_model.proofs.served.least_other_in.Goals as goal

pub loop-i-preserved : goal.loop-i-preserved
loop-i-preserved c = rw c.smaller-least.ensures (least_step c.args.inst.now c.args.walk.now c.loop-i.i c.step.result c.loop-i.least c.other_edge.result
    (omega arith) c.step.ensures c.loop-i.invariant c.other_edge.ensures)

pub returns : goal.returns
returns c = rw (take_all c.loop-i.i c.args.walk.now (omega arith)) at c.loop-i.invariant
