use Rattle.std.proofs.Common.{arith}
use Rattle.task_tours.specs.Tours.{AreServedOnce}
use Rattle.giant_split.proofs.Exchanging.{served_alike}
use Rattle.giant_split.proofs.splitter.improve.Goals as goal
use Rattle.giant_split.proofs.splitter.improve.Goals.{then-cost-least, else-cost-least}

pub new-requires : goal.new-requires
new-requires c = omega (arith, c.served_once_are_as_many.ensures c.args.inst.now c.args.order.now c.requires.order, c.validity.ensures.few_required)

pub cut-cost-requires-clause-order : goal.cut-cost-requires-clause-order
cut-cost-requires-clause-order c = served_alike c.args.inst.now c.loop.order c.apply.new.order c.apply.ensures c.loop.invariant.order

pub loop-preserved : goal.loop-preserved
loop-preserved c =
    let p = c.args.inst.now in
    let applied : AreServedOnce p c.apply.new.order = served_alike p c.loop.order c.apply.new.order c.apply.ensures c.loop.invariant.order in
    record {
      order = elim c.if-cost-least.branch [
        | then-cost-least w ↦ rw w.order-is applied
        | else-cost-least w ↦ rw w.order-is (served_alike p c.apply.new.order w.undo.new.order w.undo.ensures applied)
      ];
      room = rw c.if-cost-least.auto.order c.cut-cost.ensures.room;
    }
