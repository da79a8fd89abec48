-- Small changes of the tours of a plan, and plans that none of them makes cheaper (Aarts and Lenstra 1997; Hertz, Laporte and Mittaz 2000).
use Rattle.std.specs.Prelude.{◌≡◌, ◌≤◌, not, List, [], ◌∷◌, ◌++◌, ◌⊎◌}
use Rattle.carp_base.specs.declared.edge.Task.{Task}
use Rattle.carp_base.specs.Problem.{Problem}
use Rattle.plan_model.specs.declared.step.Step.{Step}
use Rattle.plan_model.specs.Plans.{IsLawful, plan_cost}
use Rattle.task_tours.specs.Tours.{plan_tours}

-- the same edge, served in the other direction
abbrev pub other_direction : Task → Task
other_direction t = record { edge = t.edge; forward = not t.forward }

-- the same edge, served in the same direction or in the other
abbrev pub IsSameService : Task → Task → Type 0
IsSameService t u = (u ≡ t) ⊎ (u ≡ other_direction t)

-- one service turns its direction
pub record TurnsOne (before after : List (List Task)) : Type 0 where
  pub earlier : List (List Task)
  pub later : List (List Task)
  pub left : List Task
  pub right : List Task
  pub t : Task
  pub was : before ≡ earlier ++ ((left ++ (t ∷ right)) ∷ later)
  pub is : after ≡ earlier ++ ((left ++ (other_direction t ∷ right)) ∷ later)

-- one service is taken out of its tour; the tour stays, even if nothing is left of it
pub record TakesOutTask (t : Task) (before rest : List (List Task)) : Type 0 where
  pub earlier : List (List Task)
  pub later : List (List Task)
  pub left : List Task
  pub right : List Task
  pub was : before ≡ earlier ++ ((left ++ (t ∷ right)) ∷ later)
  pub is : rest ≡ earlier ++ ((left ++ right) ∷ later)

-- one service moves, in either direction, to any place of any tour: if it is taken out again, the rest is the same
pub record MovesOne (before after : List (List Task)) : Type 0 where
  pub t : Task
  pub rest : List (List Task)
  pub out : TakesOutTask t before rest
  pub u : Task
  pub same : IsSameService t u
  pub back : TakesOutTask u after rest

-- one service moves, in either direction, to a tour of its own
pub record OpensOne (before after : List (List Task)) : Type 0 where
  pub t : Task
  pub rest : List (List Task)
  pub out : TakesOutTask t before rest
  pub u : Task
  pub same : IsSameService t u
  pub is : after ≡ rest ++ ((u ∷ []) ∷ [])

-- two services of one tour change places, and keep their directions
pub record SwapsWithin (before after : List (List Task)) : Type 0 where
  pub earlier : List (List Task)
  pub later : List (List Task)
  pub left : List Task
  pub middle : List Task
  pub right : List Task
  pub s : Task
  pub t : Task
  pub was : before ≡ earlier ++ ((left ++ (s ∷ (middle ++ (t ∷ right)))) ∷ later)
  pub is : after ≡ earlier ++ ((left ++ (t ∷ (middle ++ (s ∷ right)))) ∷ later)

-- two services of two tours do
pub record SwapsBetween (before after : List (List Task)) : Type 0 where
  pub earlier : List (List Task)
  pub between : List (List Task)
  pub later : List (List Task)
  pub left : List Task
  pub right : List Task
  pub next_left : List Task
  pub next_right : List Task
  pub s : Task
  pub t : Task
  pub was : before ≡ earlier ++ ((left ++ (s ∷ right)) ∷ (between ++ ((next_left ++ (t ∷ next_right)) ∷ later)))
  pub is : after ≡ earlier ++ ((left ++ (t ∷ right)) ∷ (between ++ ((next_left ++ (s ∷ next_right)) ∷ later)))

-- one small change: a service turns, moves, or gets a tour of its own, or two services change places
pub data IsChange (before after : List (List Task)) : Type 0 where
  turns : TurnsOne before after → IsChange before after
  moves_on : MovesOne before after → IsChange before after
  opens_tour : OpensOne before after → IsChange before after
  swaps_within : SwapsWithin before after → IsChange before after
  swaps_between : SwapsBetween before after → IsChange before after

-- a plan is settled if no lawful plan whose tours are one small change away from its tours costs less
abbrev pub IsSettledPlan : Problem → List (List Step) → Type 0
IsSettledPlan p plan = (other : List (List Step)) → IsLawful p other → IsChange (plan_tours plan) (plan_tours other) → plan_cost p plan ≤ plan_cost p other
