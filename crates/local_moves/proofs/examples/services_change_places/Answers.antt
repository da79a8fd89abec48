use Rattle.std.proofs.Common.{[], refl}
use Rattle.task_tours.specs.Examples.{alley_out, lane_out}
use Rattle.local_moves.proofs.Small.{none_between, none_changed, none_within}
use Rattle.local_moves.proofs.examples.services_change_places.Goals as goal

pub returns-clause-within : goal.returns-clause-within
returns-clause-within c = record { earlier = []; later = []; left = []; middle = []; right = []; s = lane_out; t = alley_out; was = refl; is = refl }

pub returns-clause-not_within : goal.returns-clause-not_within
returns-clause-not_within c = none_within []

pub returns-clause-between : goal.returns-clause-between
returns-clause-between c = record {
  earlier = [];
  between = [];
  later = [];
  left = [];
  right = [];
  next_left = [];
  next_right = [];
  s = lane_out;
  t = alley_out;
  was = refl;
  is = refl;
}

pub returns-clause-not_between : goal.returns-clause-not_between
returns-clause-not_between c = none_between []

pub returns-clause-nothing : goal.returns-clause-nothing
returns-clause-nothing c = none_changed []
