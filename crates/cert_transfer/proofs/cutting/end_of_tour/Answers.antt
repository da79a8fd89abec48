use Rattle.std.proofs.Common.{◌+◌, ap, arith}
use Rattle.cert_transfer.proofs.TourParts.{longer_part}
use Rattle.cert_transfer.proofs.cutting.end_of_tour.Goals as goal

pub loop-end-preserved : goal.loop-end-preserved
loop-end-preserved c =
    longer_part c.args.inst.now c.args.tasks.now c.args.start c.loop-end.end c.loop-end.load c.loop-end.invariant _ c.loop-end-test.true
    (ap (λ n. c.loop-end.load + n) c.demand_at-load-in-loop-end.ensures.value)
    (omega (arith, c.if-load-capacity.false, c.capacity-capacity.ensures.value))
