use Rattle.std.proofs.Common.{append_assoc, arith}
use Rattle.plan_print.proofs.TourLines.{lawful_on_edges}
use Rattle.plan_print.proofs.StepLines.{tours_steps-take}
use Rattle.plan_print.proofs.sheets.push_tours_steps.Goals as goal

pub push_tour_steps-requires : goal.push_tour_steps-requires
push_tour_steps-requires c = rw c.walk.ensures.value (lawful_on_edges c.args.inst.now c.args.plan.now c.requires c.loop-i.i (omega arith))

pub loop-i-preserved : goal.loop-i-preserved
loop-i-preserved c =
    rw (tours_steps-take c.args.inst.now c.loop-i.i c.args.plan.now (omega arith), c.in_ok-push_tour_steps.ensures, c.loop-i.invariant, c.walk.ensures.value)
    (simp append_assoc)
