use Rattle.std.proofs.Common.{◌≡◌, ◌≤◌, [], sym, ap, subst, ◌∙◌, arith}
use Rattle.std.specs.List.{AllByRecursion}
use Rattle.std.proofs.lemmas.List.{get_or_read}
use Rattle.carp_base.specs.declared.edge.Task.{Task}
use Rattle.carp_base.specs.Problem.{IsRequired}
use Rattle.task_tours.specs.Tours.{tour_load}
use Rattle.augment_merge.specs.Joins.{joined_tour}
use Rattle.augment_merge.specs.Merging.{nth_tour, tour_of_join}
use Rattle.augment_merge.proofs.Progress.{joined_doable}
use Rattle.augment_merge.proofs.merging.make.Goals as goal

-- the tasks are those of the joined tour
pub tasks_are : (c : goal.After-tasks) → c.tasks.result.now ≡ tour_of_join c.args.tours.now c.args.join.now
tasks_are c =
    let tours = c.args.tours.now in
    let j = c.args.join.now in
    let one : c.index-tours-join.result ≡ nth_tour tours j.first = get_or_read tours j.first c.index-tours-join.result (omega (arith, c.requires.saves.order, c.requires.saves.in_range)) c.index-tours-join.is [] in
    let two : c.index-tours-join-2.result ≡ nth_tour tours j.second = get_or_read tours j.second c.index-tours-join-2.result c.requires.saves.in_range c.index-tours-join-2.is [] in
    c.tasks.ensures ∙ c.in_ok-tour.ensures ∙ ap (λ t. joined_tour j.turn_first j.turn_second t c.index-tours-join-2.result) one ∙ ap (joined_tour j.turn_first j.turn_second (nth_tour tours j.first)) two

pub of-requires-clause-required : goal.of-requires-clause-required
of-requires-clause-required c =
    let p = c.args.inst.now in
    subst (AllByRecursion (λ (t : Task). IsRequired p t.edge)) (sym (tasks_are c)) (joined_doable p c.args.tours.now c.args.join.now c.requires.saves c.requires.doable).required

pub of-requires-clause-load : goal.of-requires-clause-load
of-requires-clause-load c =
    let p = c.args.inst.now in
    subst (λ ts. tour_load p ts ≤ p.capacity) (sym (tasks_are c)) (joined_doable p c.args.tours.now c.args.join.now c.requires.saves c.requires.doable).load
