use Rattle.std.proofs.Common.{◌≡◌, take}
use Rattle.task_tours.specs.Tours.{tour_load}
use Rattle.augment_merge.proofs.outline.load_of.Given as goal

abbrev pub invariant-loop-task : goal.invariant-loop-task
invariant-loop-task l = l.load ≡ tour_load l.inst (take l.task-index l.tasks)
