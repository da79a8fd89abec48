use Rattle.std.proofs.Common.{[], length, sym, ap, subst, ◌∙◌, arith}
use Rattle.std.specs.List.{filter}
use Rattle.task_tours.specs.Tours.{AreLawfulTours}
use Rattle.augment_merge.specs.Merging.{has_tasks}
use Rattle.augment_merge.specs.Outlines.{AreDoable}
use Rattle.augment_merge.proofs.Ended.{no_join_saves}
use Rattle.augment_merge.proofs.Lawful.{doable_each, lawful_tours, merged_doable, merged_long}
use Rattle.augment_merge.proofs.Taken.{augmented_doable}
use Rattle.augment_merge.proofs.making.augment_merge.Goals as goal

pub merge-requires-clause-doable : goal.merge-requires-clause-doable
merge-requires-clause-doable c =
    let is = c.in_ok-augmented.ensures in
    let tours = c.in_ok-augmented.augmented.items in
    doable_each c.args.inst.now tours (augmented_doable c.args.inst.now c.validity.ensures is.singles is.single [] tours is.taken)

pub plan_of-requires-clause-doable : goal.plan_of-requires-clause-doable
plan_of-requires-clause-doable c =
    let p = c.args.inst.now in
    let is = c.in_ok-augmented.ensures in
    let tours = c.in_ok-augmented.augmented.items in
    subst (AreDoable p) (sym c.deref.ensures.value)
    (merged_doable p tours c.in_ok-merged.merged.items c.in_ok-merged.ensures (doable_each p tours (augmented_doable p c.validity.ensures is.singles is.single [] tours is.taken)))

pub plan_of-requires-clause-few : goal.plan_of-requires-clause-few
plan_of-requires-clause-few c =
    omega (arith, ap length c.deref.ensures.value, merged_long c.args.inst.now c.in_ok-augmented.augmented.items c.in_ok-merged.merged.items c.in_ok-merged.ensures, c.in_ok-augmented.ensures.few)

pub returns-clause-lawful : goal.returns-clause-lawful
returns-clause-lawful c =
    let p = c.args.inst.now in
    let is = c.in_ok-augmented.ensures in
    let merged = c.in_ok-merged.merged.items in
    let tours = c.in_ok-plan.ensures.tours ∙ ap (filter has_tasks) c.deref.ensures.value in
    let lawful = lawful_tours p c.validity.ensures is.singles c.in_ok-augmented.augmented.items merged is.single is.taken c.in_ok-merged.ensures in
    c.plans_are_tours.ensures.lawful p c.validity.ensures c.in_ok-plan.plan c.in_ok-plan.ensures.paths (subst (AreLawfulTours p) (sym tours) lawful)

pub returns-clause-no_join_saves : goal.returns-clause-no_join_saves
returns-clause-no_join_saves c =
    let p = c.args.inst.now in
    let is = c.in_ok-augmented.ensures in
    let merged = c.in_ok-merged.merged.items in
    let tours = c.in_ok-plan.ensures.tours ∙ ap (filter has_tasks) c.deref.ensures.value in
    let lawful = lawful_tours p c.validity.ensures is.singles c.in_ok-augmented.augmented.items merged is.single is.taken c.in_ok-merged.ensures in
    no_join_saves p c.tours_are_linked.ensures.unique merged c.in_ok-merged.ensures.none_saves c.validity.ensures c.tours_are_linked.ensures.there c.plans_are_tours.ensures.tours c.plans_are_tours.ensures.cost
    c.plans_are_tours.ensures.least c.in_ok-plan.plan tours (returns-clause-lawful c) c.in_ok-plan.ensures.paths lawful
