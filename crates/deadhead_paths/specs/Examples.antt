-- Small data for the examples beside the tests. No public contract speaks of this.
use Rattle.std.specs.Prelude.{ℕ, ◌≡◌, true, false, [], ◌∷◌}
use Rattle.carp_base.specs.declared.edge.Edge.{Edge}
use Rattle.carp_base.specs.declared.edge.Task.{Task}
use Rattle.carp_base.specs.Problem.{Problem}
use Rattle.plan_model.specs.declared.step.Step.{Step}

-- one street, from the depot to the other vertex
abbrev pub street : Edge
street = record { u = 1; v = 2; cost = 5; demand = 1; service = 7 }

-- a town of one street that is to be served
abbrev pub town : Problem
town = record { vertices = 2; depot = 1; capacity = 2; required = 1; edges = street ∷ [] }

-- the same street among many vertices
abbrev pub wide_town : Problem
wide_town = record { vertices = 100; depot = 1; capacity = 2; required = 1; edges = street ∷ [] }

-- each edge is free
abbrev pub gratis : ℕ → ℕ
gratis e = 0

-- each edge has the price 5
abbrev pub five : ℕ → ℕ
five e = 5

-- the street is served from the depot, and crossed without service to there and back
abbrev pub serve : Step
serve = record { edge = 1; forward = true; served = true }

abbrev pub forth : Step
forth = record { edge = 1; forward = true; served = false }

abbrev pub homeward : Step
homeward = record { edge = 1; forward = false; served = false }

-- the street as a task, from the depot and to it
abbrev pub task : Task
task = record { edge = 1; forward = true }

abbrev pub task_back : Task
task_back = record { edge = 1; forward = false }

-- an edge may follow each edge, itself too
abbrev pub IsAny : ℕ → ℕ → Type 0
IsAny a b = Unit {0}

-- an edge may follow another one, and none may follow itself
abbrev pub IsOther : ℕ → ℕ → Type 0
IsOther a b = ¬ (a ≡ b)
