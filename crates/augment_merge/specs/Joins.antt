-- Two tours joined end to end in one of four ways (Golden and Wong 1981).
use Rattle.std.specs.Prelude.{◌≡◌, ◌≤◌, Bool, not, List, ◌∷◌, ◌++◌, map, reverse, if◌then◌else◌}
use Rattle.carp_base.specs.declared.edge.Task.{Task}
use Rattle.carp_base.specs.Problem.{Problem}
use Rattle.plan_model.specs.declared.step.Step.{Step}
use Rattle.plan_model.specs.Plans.{IsLawful, plan_cost}
use Rattle.task_tours.specs.Tours.{plan_tours}

-- the service of the same edge in the other direction
abbrev pub reversed_task : Task → Task
reversed_task t = record { edge = t.edge; forward = not t.forward }

-- the tour that is gone through from its end to its beginning
abbrev pub reversed_tour : List Task → List Task
reversed_tour tour = reverse (map reversed_task tour)

-- the tour as it stands, or reversed
abbrev pub oriented_tour : Bool → List Task → List Task
oriented_tour turned tour = if turned then reversed_tour tour else tour

-- one tour after the other, either of them as it stands or reversed
abbrev pub joined_tour : Bool → Bool → List Task → List Task → List Task
joined_tour turn_first turn_second first second = oriented_tour turn_first first ++ oriented_tour turn_second second

-- the other tours are these with two of them joined, in one of the four ways
pub record IsTourJoin (tours other : List (List Task)) : Type 0 where
  pub before : List (List Task)
  pub first : List Task
  pub between : List (List Task)
  pub second : List Task
  pub after : List (List Task)
  pub turn_first : Bool
  pub turn_second : Bool
  pub apart : tours ≡ before ++ first ∷ (between ++ second ∷ after)
  pub together : other ≡ before ++ joined_tour turn_first turn_second first second ∷ (between ++ after)

-- no lawful plan whose tours are those of the plan with two of them joined costs less
abbrev pub NoJoinSaves : Problem → List (List Step) → Type 0
NoJoinSaves p plan = (other : List (List Step)) → IsLawful p other → IsTourJoin (plan_tours plan) (plan_tours other) → plan_cost p plan ≤ plan_cost p other
