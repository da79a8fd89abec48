use Rattle.carp_base.specs.Problem.{IsVertex}
use Rattle.price_points.proofs.tours.Cover.add_tour.Given as goal

abbrev pub invariant-loop-task : goal.invariant-loop-task
invariant-loop-task l = IsVertex l.inst l.at
