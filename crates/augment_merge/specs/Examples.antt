-- Small data for the examples beside the tests. No public contract speaks of this.
use Rattle.std.specs.Prelude.{true, false, List, [], ◌∷◌}
use Rattle.carp_base.specs.declared.edge.Edge.{Edge}
use Rattle.carp_base.specs.declared.edge.Task.{Task}
use Rattle.carp_base.specs.Problem.{Problem}
use Rattle.plan_model.specs.declared.step.Step.{Step}
use Rattle.augment_merge.specs.declared.joins.Join.{Join}

-- a town of two lanes behind each other, of which both are to be served, and fill a vehicle
abbrev pub near_lane : Edge
near_lane = record { u = 1; v = 2; cost = 5; demand = 1; service = 7 }

abbrev pub far_lane : Edge
far_lane = record { u = 2; v = 3; cost = 4; demand = 1; service = 6 }

abbrev pub two_lane_town : Problem
two_lane_town = record { vertices = 3; depot = 1; capacity = 2; required = 2; edges = near_lane ∷ far_lane ∷ [] }

-- its tasks, each in both directions
abbrev pub near_task : Task
near_task = record { edge = 1; forward = true }

abbrev pub near_back : Task
near_back = record { edge = 1; forward = false }

abbrev pub far_task : Task
far_task = record { edge = 2; forward = true }

abbrev pub far_back : Task
far_back = record { edge = 2; forward = false }

-- the tour of only the far lane: out over the near one, and home
abbrev pub far_walk : List Step
far_walk =
    record { edge = 1; forward = true; served = false } ∷ record { edge = 2; forward = true; served = true }
    ∷ record { edge = 2; forward = false; served = false } ∷ record { edge = 1; forward = false; served = false } ∷ []

-- joins that save as much as each other: of the first two tours, in another way, and of the first and the third; and one that saves less
abbrev pub plain_join : Join
plain_join = record { first = 0; second = 1; turn_first = false; turn_second = true; saving = 4 }

abbrev pub turned_join : Join
turned_join = record { first = 0; second = 1; turn_first = true; turn_second = false; saving = 4 }

abbrev pub later_join : Join
later_join = record { first = 0; second = 2; turn_first = false; turn_second = false; saving = 4 }

abbrev pub lesser_join : Join
lesser_join = record { first = 0; second = 1; turn_first = false; turn_second = false; saving = 3 }
