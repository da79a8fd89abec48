use Rattle.std.proofs.Common.{arith}
use Rattle.carp_base.specs.Problem.{IsRequired}
use Rattle.deadhead_paths.proofs.Singles.{more_singles, least_tours}
use Rattle.deadhead_paths.proofs.touring.single_tours.Goals as goal

pub loop-e-preserved : goal.loop-e-preserved
loop-e-preserved c =
    let required : IsRequired c.args.inst.now c.loop-e.e = record { from_one = omega arith; in_range = omega arith } in
    rw c.in_ok-push.ensures.ok (more_singles c.args.inst.now c.loop-e.e c.loop-e.plan c.in_ok-single_tour.field-0 c.required-e-end.ensures.valid required c.loop-e.invariant c.in_ok-single_tour.ensures)

pub returns-clause-tours : goal.returns-clause-tours
returns-clause-tours c = least_tours c.args.inst.now c.loop-e.e c.loop-e.plan (omega arith) c.loop-e.invariant
