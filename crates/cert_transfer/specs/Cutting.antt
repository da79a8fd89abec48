-- Tours that are cut if a vehicle is full.
use Rattle.std.specs.Prelude.{◌+◌, List, [], ◌∷◌, ◌++◌, if◌then◌else◌, nat_le}
use Rattle.std.specs.List.{flat_map}
use Rattle.carp_base.specs.declared.edge.Task.{Task}
use Rattle.carp_base.specs.Problem.{Problem, edge_at}
use Rattle.task_tours.specs.Tours.{tour_load}

-- the tasks so far and those to come, in their order, cut into tours: a new tour begins exactly if the load with the next task would pass
-- the capacity
abbrev pub cut_from : Problem → (tour : List Task) → List Task → List (List Task)
cut_from p tour [] = tour ∷ []
cut_from p tour (task ∷ tasks) =
    if nat_le (tour_load p tour + (edge_at p task.edge).demand) p.capacity
    then cut_from p (tour ++ task ∷ []) tasks
    else tour ∷ cut_from p (task ∷ []) tasks

-- a tour, cut so; a tour of no task is left out
abbrev pub cut_tour : Problem → List Task → List (List Task)
cut_tour p [] = []
cut_tour p (task ∷ tasks) = cut_from p (task ∷ []) tasks

-- each tour of a list, cut so, in the order of the list
abbrev pub cut_tours : Problem → List (List Task) → List (List Task)
cut_tours p tours = flat_map (cut_tour p) tours
