use Rattle.std.proofs.Common.{◌≡◌, take}
use Rattle.task_tours.specs.Tours.{all_tasks, plan_tours}
use Rattle.giant_split.proofs.splitter.order_of.Given as goal

abbrev pub invariant-loop-i : goal.invariant-loop-i
invariant-loop-i l = l.order.items ≡ all_tasks (plan_tours (take l.i l.plan))
