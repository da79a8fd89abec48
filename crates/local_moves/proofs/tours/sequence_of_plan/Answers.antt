use Rattle.std.proofs.Common.{◌++◌, ◌∷◌, [], map, get_or, arith, sym, ap, ◌∙◌}
use Rattle.deadhead_paths.specs.Tours.{tasks_of}
use Rattle.local_moves.specs.Stops.{stop_of}
use Rattle.local_moves.proofs.Sequencing.{plan_more}
use Rattle.local_moves.proofs.tours.sequence_of_plan.Goals as goal

pub loop-i-preserved : goal.loop-i-preserved
loop-i-preserved c =
    c.in_ok-push-2.ensures.items
    ∙ ap (λ xs. xs ++ (0 ∷ [])) (c.in_ok-add_services.ensures ∙ ap (λ w. c.loop-i.sequence.items ++ map stop_of (tasks_of w)) c.walk.ensures.value ∙ ap (λ xs. xs ++ map stop_of (tasks_of (get_or c.args.plan.now c.loop-i.i []))) c.loop-i.invariant)
    ∙ sym (plan_more c.args.plan.now c.loop-i.i (omega (arith, c.loop-i-test.true, c.len-i-end.ensures.value)))
