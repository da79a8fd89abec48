-- What a short lawful plan costs is small.
use Rattle.std.proofs.Common.{ℕ, ◌≤◌, Bool, true, false, List, [], ◌∷◌, refl, arith, All, IsTrue}
use Rattle.std.specs.List.{AllByRecursion}
use Rattle.std.specs.Prelude.{if◌then◌else◌}
use Rattle.std.proofs.lemmas.List.Elements.{All-nil, All-cons, All-append}
use Rattle.std.proofs.lemmas.List.Sums.{sum_by-le}
use Rattle.carp_base.specs.Problem.{Problem, IsValid, IsEdgeNumber, IsRequired, edge_at}
use Rattle.plan_model.specs.declared.step.Step.{Step}
use Rattle.plan_model.specs.Plans.{IsLawfulWalk, Leads, step_cost, steps_of}
use Rattle.task_tours.specs.ShortLaws.{ShortPlansCostLittle}

-- a step of a lawful walk costs at most 1,000,000
abbrev IsSmallStep : Problem → Step → Type 0
IsSmallStep p s = step_cost p s ≤ 1000000

small_step : (p : Problem) (s : Step) → IsValid p → IsEdgeNumber p s.edge → (IsTrue s.served → IsRequired p s.edge) → IsSmallStep p s
small_step p s valid number required = by s.served required where
  by : (b : Bool) → (IsTrue b → IsRequired p s.edge) → (if b then (edge_at p s.edge).service else (edge_at p s.edge).cost) ≤ 1000000
  by true required = (valid.tasks s.edge (required refl)).service_in
  by false required = (valid.edges s.edge number).cost_in

small_walk : (p : Problem) → IsValid p → (a b : ℕ) (walk : List Step) → Leads p a walk b → AllByRecursion (λ s. IsTrue s.served → IsRequired p s.edge) walk → All (IsSmallStep p) walk
small_walk p valid a b [] leads required = All-nil (IsSmallStep p)
small_walk p valid a b (s ∷ walk) leads required =
    All-cons (IsSmallStep p) s walk (small_step p s valid leads.0 required.0) (small_walk p valid _ b walk leads.2 required.1)

small_steps : (p : Problem) → IsValid p → (plan : List (List Step)) → AllByRecursion (IsLawfulWalk p) plan → All (IsSmallStep p) (steps_of plan)
small_steps p valid [] walks = All-nil (IsSmallStep p)
small_steps p valid (walk ∷ plan) walks =
    All-append (IsSmallStep p) walk (steps_of plan)
    (small_walk p valid p.depot p.depot walk walks.0.leads walks.0.serves_required) (small_steps p valid plan walks.1)

pub cost_little : ShortPlansCostLittle
cost_little p plan valid lawful few = omega (arith, sum_by-le (step_cost p) 1000000 (steps_of plan) (small_steps p valid plan lawful.walks), few)
