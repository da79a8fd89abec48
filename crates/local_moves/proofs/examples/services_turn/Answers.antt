use Rattle.std.proofs.Common.{[], refl}
use Rattle.task_tours.specs.Examples.{lane_out}
use Rattle.local_moves.proofs.Small.{not_turned}
use Rattle.local_moves.proofs.examples.services_turn.Goals as goal

pub returns-clause-turned : goal.returns-clause-turned
returns-clause-turned c = record { earlier = []; later = []; left = []; right = []; t = lane_out; was = refl; is = refl }

pub returns-clause-same : goal.returns-clause-same
returns-clause-same c = not_turned
