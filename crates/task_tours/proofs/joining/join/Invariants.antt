use Rattle.std.proofs.Common.{◌*◌, ◌≤◌, length, take}
use Rattle.task_tours.specs.Joining.{GoesThrough, service_steps}
use Rattle.task_tours.specs.Tours.{IsStand}
use Rattle.task_tours.proofs.joining.join.Given as goal

abbrev pub invariant-loop-task : goal.invariant-loop-task
invariant-loop-task l = record {
  stand : IsStand l.inst l.at;
  goes : GoesThrough l.inst (service_steps (take l.task-index l.tasks)) l.inst.depot l.at l.walk;
  short : length l.walk ≤ 1000 * l.task-index;
}
