-- The street sheet: what a driver does, step by step.
use Rattle.std.specs.Prelude.{ℕ, ◌+◌, ◌++◌, ◌∷◌, [], List, length, codes, decimal, if◌then◌else◌}
use Rattle.carp_base.specs.Problem.{Problem, edge_at, tail_of, head_of}
use Rattle.plan_model.specs.declared.step.Step.{Step}
use Rattle.plan_model.specs.Plans.{step_cost, step_load, walk_cost, walk_load, plan_cost}
use Rattle.plan_print.specs.NumberLines.{number_line}

-- where a step starts, where it ends, and what it costs
unfoldable pub crossing_words : Problem → Step → List ℕ
crossing_words p s =
    decimal (tail_of (edge_at p s.edge) s.forward) ++ (codes " " ++ decimal (head_of (edge_at p s.edge) s.forward)) ++ (codes " cost " ++ decimal (step_cost p s))

-- the line of a step that serves ends in the load after it, and no other names a load
unfoldable pub step_end : Step → ℕ → List ℕ
step_end s load = if s.served then number_line (codes " load ") load else codes "\n"

-- the line of the step of a number
unfoldable pub step_line : Problem → ℕ → ℕ → Step → List ℕ
step_line p j load s = decimal j ++ (if s.served then codes " serve " else codes " drive ") ++ crossing_words p s ++ step_end s load

-- the lines of the steps, numbered from j, with this load before them
abbrev pub step_lines : Problem → ℕ → ℕ → List Step → List ℕ
step_lines p j load [] = []
step_lines p j load (s ∷ steps) = step_line p j (load + step_load p s) s ++ step_lines p (j + 1) (load + step_load p s) steps

-- the head line of the tour of a number
unfoldable pub head_line : Problem → ℕ → List Step → List ℕ
head_line p i walk = (codes "tour " ++ decimal i) ++ (codes " load " ++ decimal (walk_load p walk)) ++ number_line (codes " cost ") (walk_cost p walk)

-- the lines of the tour of a number
abbrev pub tour_steps : Problem → ℕ → List Step → List ℕ
tour_steps p i walk = head_line p i walk ++ step_lines p 1 0 walk

-- the lines of the tours, numbered from i
abbrev pub tours_steps : Problem → ℕ → List (List Step) → List ℕ
tours_steps p i [] = []
tours_steps p i (walk ∷ walks) = tour_steps p i walk ++ tours_steps p (i + 1) walks

unfoldable pub total_line : Problem → List (List Step) → List ℕ
total_line p plan = (codes "total tours " ++ decimal (length plan)) ++ number_line (codes " cost ") (plan_cost p plan)

-- the street sheet of a plan
abbrev pub sheet_text : Problem → List (List Step) → List ℕ
sheet_text p plan = tours_steps p 1 plan ++ total_line p plan
