use Rattle.std.proofs.Common.{◌/◌, ◌%◌, ◌++◌, ◌∷◌, [], eqb, get_or, ap, ◌∙◌}
use Rattle.std.proofs.lemmas.List.{take_all}
use Rattle.task_tours.specs.Tours.{plan_tours}
use Rattle.local_moves.proofs.Sequencing.{cut_here, go_on, none_open, stop_required, task_again}
use Rattle.local_moves.proofs.tours.plan_of_sequence.Goals as goal
use Rattle.local_moves.proofs.tours.plan_of_sequence.Goals.{then-x-eq0+in_ok-add_tour, else-x-eq0+in_ok-push}

pub loop-i-preserved : goal.loop-i-preserved
loop-i-preserved c = elim c.if-x-eq0.branch [
  | then-x-eq0+in_ok-add_tour w ↦
      rw (w.plan-is, w.tour-is) record {
        cut = rw w.clear.ensures.items
            (cut_here c.args.inst.now c.args.sequence.now c.loop-i.i (plan_tours c.loop-i.plan) (plan_tours w.add_tour.new.plan) c.loop-i.tour.items c.loop-i-test.true w.if-x-eq0.true
            (w.in_ok-add_tour.ensures.tours ∙ ap (λ ts. plan_tours c.loop-i.plan ++ (ts ∷ [])) w.deref.ensures.value) c.loop-i.invariant.cut);
        paths = w.in_ok-add_tour.ensures.paths c.loop-i.invariant.paths;
      }
  | else-x-eq0+in_ok-push w ↦
      let x = get_or c.args.sequence.now c.loop-i.i 0 in
      rw (w.plan-is, w.tour-is) record {
        cut = go_on c.args.inst.now c.args.sequence.now c.loop-i.i (plan_tours c.loop-i.plan) c.loop-i.tour.items w.push.new.self.items (record { edge = x / 2; forward = eqb (x % 2) 0 }) c.loop-i-test.true
            (task_again x) (stop_required c.args.inst.now x w.if-x-eq0.false (c.requires.real c.loop-i.i 0 c.loop-i-test.true) (c.requires.within c.loop-i.i 0 c.loop-i-test.true)) w.in_ok-push.ensures.items c.loop-i.invariant.cut;
        paths = c.loop-i.invariant.paths;
      }
]

pub returns-clause-tours : goal.returns-clause-tours
returns-clause-tours c =
    let own = c.loop-i.invariant.cut in
    none_open c.args.inst.now _ c.args.sequence.now c.loop-i.tour.items (own.done ∙ take_all c.loop-i.i c.args.sequence.now c.loop-i-test.false) c.requires.last own.tour_required
