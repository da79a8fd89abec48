use Rattle.std.proofs.Common.{◌-◌, arith, refl}
use Rattle.giant_split.proofs.Ending.{cut_more, way_within}
use Rattle.giant_split.proofs.cutting.cut_legs.Goals as goal

pub overflow_sub-costs : goal.overflow_sub-costs
overflow_sub-costs c =
    let last = c.best_last-last in
    omega (arith, way_within c.args.capacity c.args.legs.now c.requires.fine c.loop-from.costs (c.loop-from.from - 1) last.result last.ensures.later last.ensures.within, c.onward.ensures.value)

pub loop-from-preserved : goal.loop-from-preserved
loop-from-preserved c =
    cut_more c.args.capacity c.args.legs.now c.requires.fine c.loop-from.costs c.loop-from.lasts (c.loop-from.from - 1) c.loop-from.from c.best_last-last.result _ c.loop-from.invariant (omega arith) (omega arith)
    c.best_last-last.ensures (rw c.onward.ensures.value refl)
