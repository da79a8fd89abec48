use Rattle.std.proofs.Common.{append_assoc, arith, ◌≡◌, ◌+◌}
use Rattle.plan_print.proofs.TourLines.{tour_lines-take, lawful_on_edges}
use Rattle.plan_print.proofs.reporting.push_tour_lines.Goals as goal

pub push_tour_line-requires : goal.push_tour_line-requires
push_tour_line-requires c = rw c.walk.ensures.value (lawful_on_edges c.args.inst.now c.args.plan.now c.requires c.loop-i.i (omega arith))

pub loop-i-preserved : goal.loop-i-preserved
loop-i-preserved c =
    let e : 1 + c.loop-i.i ≡ c.loop-i.i + 1 = omega arith in
    rw (tour_lines-take c.args.inst.now 1 c.loop-i.i c.args.plan.now (omega arith), e, c.in_ok-push_tour_line.ensures, c.loop-i.invariant, c.walk.ensures.value) (simp append_assoc)
