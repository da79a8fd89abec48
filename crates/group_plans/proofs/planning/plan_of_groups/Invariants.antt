use Rattle.task_tours.specs.Tours.{PlanGoesByLeastPaths, plan_tours}
use Rattle.group_plans.specs.Gathering.{InOrderUpTo, ServesUpTo}
use Rattle.group_plans.proofs.planning.plan_of_groups.Given as goal

abbrev pub invariant-loop-done : goal.invariant-loop-done
invariant-loop-done l = record {
  up : ServesUpTo l.inst l.groups l.done (plan_tours l.plan);
  order : InOrderUpTo l.inst l.groups l.done (plan_tours l.plan);
  paths : PlanGoesByLeastPaths l.inst l.plan;
}
