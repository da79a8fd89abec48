use Rattle.std.proofs.Common.{◌≡◌, ◌≤◌, [], length, sym, subst, ◌∙◌}
use Rattle.std.proofs.lemmas.List.{get_or_read}
use Rattle.augment_merge.specs.Merging.{nth_tour}
use Rattle.augment_merge.proofs.Lawful.{few_tasks}
use Rattle.augment_merge.proofs.making.plan_of.Goals as goal

pub add_tour-requires-clause-few : goal.add_tour-requires-clause-few
add_tour-requires-clause-few c =
    let p = c.args.inst.now in
    let tours = c.args.tours.now in
    let i = c.loop-tour.tour-index in
    let tasks_are : c.tasks-then-not-is_empty.result.now ≡ nth_tour tours i = c.tasks-then-not-is_empty.ensures ∙ get_or_read tours i c.tour-item.result c.loop-tour-test.true c.tour-item.is [] in
    subst (λ ts. length ts ≤ 30000) (sym tasks_are) (few_tasks p c.validity.ensures (nth_tour tours i) (c.requires.doable i c.loop-tour-test.true))
