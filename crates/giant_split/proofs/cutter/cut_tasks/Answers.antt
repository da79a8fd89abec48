use Rattle.std.proofs.Common.{arith, subst}
use Rattle.giant_split.specs.Cuts.{AreCutFrom}
use Rattle.giant_split.proofs.Touring.{cut_order, fine_legs}
use Rattle.giant_split.proofs.cutter.cut_tasks.Goals as goal

pub measure-requires-clause-few : goal.measure-requires-clause-few
measure-requires-clause-few c = omega (arith, c.served_once_are_as_many.ensures c.args.inst.now c.args.order.now c.requires.order, c.capacity-capacity.ensures.valid.few_required)

pub cut_legs-requires-clause-fine : goal.cut_legs-requires-clause-fine
cut_legs-requires-clause-fine c = rw c.capacity-capacity.ensures.value (fine_legs c.args.inst.now c.args.order.now c.measure.new.legs c.measure.ensures)

pub returns : goal.returns
returns c =
    cut_order c.args.inst.now c.args.order.now c.measure.new.legs c.measure.ensures c.cut_legs.new.costs c.cut_legs.new.lasts
    (subst (λ k. AreCutFrom k c.measure.new.legs c.cut_legs.new.costs c.cut_legs.new.lasts 0) c.capacity-capacity.ensures.value c.cut_legs.ensures) c.tours_are_linked.ensures.unique
