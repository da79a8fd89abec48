-- Small data for the examples. No public contract speaks of this.
use Rattle.std.specs.Prelude.{ℕ, List, [], ◌∷◌}
use Rattle.carp_base.specs.declared.edge.Edge.{Edge}
use Rattle.carp_base.specs.Problem.{Problem}
use Rattle.plan_model.specs.declared.step.Step.{Step}
use Rattle.deadhead_paths.specs.Examples.{homeward, serve, town}
use Rattle.instance_edits.specs.Examples.{three_streets, two_streets}

abbrev pub street : (u v cost demand service : ℕ) → Edge
street u v cost demand service = record { u = u; v = v; cost = cost; demand = demand; service = service }

-- three streets of which the two others are exchanged
abbrev pub exchanged_streets : Problem
exchanged_streets = record three_streets { edges = street 1 2 5 1 6 ∷ street 1 3 9 0 0 ∷ street 2 3 7 0 0 ∷ [] }

-- two streets and one that was not there
abbrev pub new_street : Problem
new_street = record two_streets { edges = street 1 2 6 3 14 ∷ street 1 3 14 0 0 ∷ street 2 3 7 0 0 ∷ [] }

-- two streets that are to be served, and the same with their numbers exchanged
abbrev pub two_tasks : Problem
two_tasks = record two_streets { required = 2; edges = street 1 2 5 1 6 ∷ street 2 3 5 1 6 ∷ [] }

abbrev pub exchanged_tasks : Problem
exchanged_tasks = record two_streets { required = 2; edges = street 2 3 5 1 6 ∷ street 1 2 5 1 6 ∷ [] }

-- the first street has a demand that takes two vehicles
abbrev pub loaded_streets : Problem
loaded_streets = record three_streets { edges = street 1 2 5 5 6 ∷ street 2 3 7 0 0 ∷ street 1 3 9 0 0 ∷ [] }

-- three streets with another number of vertices, depot or capacity, or with two to be served
abbrev pub wide_streets : Problem
wide_streets = record three_streets { vertices = 4 }

abbrev pub moved_streets : Problem
moved_streets = record three_streets { depot = 2 }

abbrev pub roomy_streets : Problem
roomy_streets = record three_streets { capacity = 5 }

abbrev pub busy_streets : Problem
busy_streets = record three_streets { required = 2 }

-- a town whose street costs nothing
abbrev pub free_town : Problem
free_town = record town { edges = street 1 2 0 1 0 ∷ [] }

-- its street is served, and crossed home
abbrev pub there_and_back : List Step
there_and_back = serve ∷ homeward ∷ []
