use Rattle.task_tours.specs.Tours.{PlanGoesByLeastPaths, plan_tours}
use Rattle.local_moves.specs.Stops.{IsCut}
use Rattle.local_moves.proofs.tours.plan_of_sequence.Given as goal

abbrev pub invariant-loop-i : goal.invariant-loop-i
invariant-loop-i l = record {
  cut : IsCut l.inst l.sequence l.i (plan_tours l.plan) l.tour.items;
  paths : PlanGoesByLeastPaths l.inst l.plan;
}
