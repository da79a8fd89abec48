use Rattle.std.proofs.Common.{[], ◌∷◌, refl, inl, inr}
use Rattle.task_tours.specs.Examples.{alley_out, lane_home, lane_out}
use Rattle.local_moves.proofs.Small.{none_moved, none_opened, stays}
use Rattle.local_moves.proofs.examples.services_move.Goals as goal

pub returns-clause-out : goal.returns-clause-out
returns-clause-out c = record { earlier = []; later = []; left = []; right = []; was = refl; is = refl }

pub returns-clause-tour_stays : goal.returns-clause-tour_stays
returns-clause-tour_stays c = stays lane_out ((lane_out ∷ []) ∷ [])

pub returns-clause-moved : goal.returns-clause-moved
returns-clause-moved c = record {
  t = lane_out;
  rest = (alley_out ∷ []) ∷ [];
  out = record { earlier = []; later = []; left = []; right = alley_out ∷ []; was = refl; is = refl };
  u = lane_home;
  same = inr refl;
  back = record { earlier = []; later = []; left = alley_out ∷ []; right = []; was = refl; is = refl };
}

pub returns-clause-not_moved : goal.returns-clause-not_moved
returns-clause-not_moved c = none_moved []

pub returns-clause-opened : goal.returns-clause-opened
returns-clause-opened c = record {
  t = alley_out;
  rest = (lane_out ∷ []) ∷ [];
  out = record { earlier = []; later = []; left = lane_out ∷ []; right = []; was = refl; is = refl };
  u = alley_out;
  same = inl refl;
  is = refl;
}

pub returns-clause-not_opened : goal.returns-clause-not_opened
returns-clause-not_opened c = none_opened ((lane_out ∷ []) ∷ [])
