-- What the least cost of deadheads that make every junction even says of all rounds.
use Rattle.std.specs.Prelude.{ℕ, ◌+◌, ◌≤◌, List}
use Rattle.carp_base.specs.Problem.{Problem, IsValid, required_cost}
use Rattle.plan_model.specs.declared.step.Step.{Step}
use Rattle.plan_model.specs.Plans.{walk_cost}
use Rattle.matching_duals.specs.Joins.{IsLeastJoin}
use Rattle.postman.specs.Rounds.{IsRound}

-- every round costs at least its services and the least join
abbrev pub RoundsPayJoins : Type 0
RoundsPayJoins = (p : Problem) (value : ℕ) (walk : List Step) → IsValid p → IsLeastJoin p value → IsRound p walk → required_cost p + value ≤ walk_cost p walk
