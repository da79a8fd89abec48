-- Small data for the examples beside the tests. No public contract speaks of this.
use Rattle.std.specs.Prelude.{true, false, List, [], ◌∷◌, None, Some}
use Rattle.carp_base.specs.declared.edge.Edge.{Edge}
use Rattle.carp_base.specs.Problem.{Problem, described}
use Rattle.plan_model.specs.declared.step.Step.{Step}
use Rattle.plan_model.specs.Offers.{Tally}

-- one vertex, and nothing to serve
abbrev pub one_vertex : Problem
one_vertex = described 1 1 1 [] []

-- one street, which is to be served
abbrev pub one_street : Problem
one_street = described 2 1 1 (record { u = 1; v = 2; cost = 5; demand = 1; service = 9 } ∷ []) []

-- a street from vertex 1 to vertex 2, and one from 3 to 2
abbrev pub street_in : Edge
street_in = record { u = 1; v = 2; cost = 5; demand = 1; service = 5 }

abbrev pub street_out : Edge
street_out = record { u = 3; v = 2; cost = 5; demand = 0; service = 0 }

-- the two streets, of which the first is to be served
abbrev pub two_streets_meet : Problem
two_streets_meet = record { vertices = 3; depot = 1; capacity = 1; required = 1; edges = street_in ∷ street_out ∷ [] }

-- a plan that serves the first street and goes on to vertex 3, and in a second walk comes back
abbrev pub there_and_back : List (List Step)
there_and_back =
    (record { edge = 1; forward = true; served = true } ∷ record { edge = 2; forward = false; served = false } ∷ [])
    ∷ (record { edge = 2; forward = true; served = false } ∷ record { edge = 1; forward = false; served = false } ∷ [])
    ∷ []

-- a step that crosses an edge of this number
abbrev pub first_step : Step
first_step = record { edge = 1; forward = true; served = false }

abbrev pub second_step : Step
second_step = record { edge = 2; forward = true; served = false }

-- a helper that was not asked yet, one with a lawful offer of cost 0, and one with a foul
abbrev pub fresh : Tally
fresh = record { fouls = 0; least = None; last = None }

abbrev pub paid : Tally
paid = record { fouls = 0; least = Some 0; last = Some 0 }

abbrev pub foul : Tally
foul = record { fouls = 1; least = None; last = None }
