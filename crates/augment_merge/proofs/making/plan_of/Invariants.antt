use Rattle.std.proofs.Common.{◌≡◌, ◌≤◌, length, take}
use Rattle.std.specs.List.{filter}
use Rattle.task_tours.specs.Tours.{PlanGoesByLeastPaths, plan_tours}
use Rattle.augment_merge.specs.Merging.{has_tasks}
use Rattle.augment_merge.proofs.making.plan_of.Given as goal

abbrev pub invariant-loop-tour : goal.invariant-loop-tour
invariant-loop-tour l = record {
  tours : plan_tours l.plan ≡ filter has_tasks (take l.tour-index l.tours);
  paths : PlanGoesByLeastPaths l.inst l.plan;
  short : length l.plan ≤ l.tour-index;
}
