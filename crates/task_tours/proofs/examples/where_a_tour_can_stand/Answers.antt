use Rattle.std.proofs.Common.{inr, refl, arith}
use Rattle.task_tours.specs.Examples.{lane_out}
use Rattle.task_tours.proofs.examples.where_a_tour_can_stand.Goals as goal

pub returns-clause-lane_end : goal.returns-clause-lane_end
returns-clause-lane_end c = inr (lane_out, record { from_one = omega arith; in_range = omega arith }, refl)
