-- A plan that grows chain by chain. No public contract speaks of this.
use Rattle.std.specs.Prelude.{◌≡◌, ℕ, ◌+◌, ◌*◌, ◌<◌, ◌≤◌, ◌==◌, Bool, true, false, List, length, count_by, if◌then◌else◌, IsTrue}
use Rattle.std.specs.List.{AllByRecursion}
use Rattle.carp_base.specs.declared.edge.Task.{Task}
use Rattle.carp_base.specs.Problem.{IsRequired}
use Rattle.plan_model.specs.Plans.{plan_cost, steps_of}
use Rattle.plan_model.specs.Sums.{sum_to}
use Rattle.plan_model.specs.declared.step.Step.{Step}
use Rattle.task_tours.specs.Tours.{JoinsTasks, PlanGoesByLeastPaths, all_tasks, plan_tours, tour_load}
use Rattle.decision_chains.specs.Directions.{IsCheapestDirected}
use Rattle.decision_chains.specs.ChainWalks.{AreClosed, IsOrdered, is_marked, unmarked}
use Rattle.decision_chains.specs.Exclusions.{AreJoined}
use Rattle.decision_chains.specs.FixedValue.{HasChainCost}
use Rattle.decision_chains.specs.declared.chains.Chains.{Chains}

-- a walk that serves the chain of an edge that was not marked, in the cheapest directions, joined by least paths
pub record IsChainTour (t : Chains) (edge : ℕ) (old : List Bool) (walk : List Step) (marks : List Bool) : Type 0 where
  pub edges : List ℕ
  pub tasks : List Task
  pub ordered : IsOrdered t edge old edges marks
  pub cheapest : IsCheapestDirected t.inst.now edges tasks
  pub joins : JoinsTasks t.inst.now tasks walk

-- the chains of the edges below k have a tour each, and cost what the plan costs
pub record IsPartPlan (t : Chains) (k : ℕ) (marks : List Bool) (plan : List (List Step)) : Type 0 where
  pub long : length marks ≡ t.inst.now.required
  pub closed : AreClosed t.decisions.now marks
  pub below : (e : ℕ) → 1 ≤ e → e < k → is_marked marks e ≡ true
  pub paths : PlanGoesByLeastPaths t.inst.now plan
  pub required : AllByRecursion (λ task. IsRequired t.inst.now task.edge) (all_tasks (plan_tours plan))
  pub once : (e : ℕ) → is_marked marks e ≡ true → count_by (λ task. task.edge == e) (all_tasks (plan_tours plan)) ≡ 1
  pub none : (e : ℕ) → is_marked marks e ≡ false → count_by (λ task. task.edge == e) (all_tasks (plan_tours plan)) ≡ 0
  pub loads : AllByRecursion (λ tour. tour_load t.inst.now tour ≤ t.inst.now.capacity) (plan_tours plan)
  pub few : length plan + 1 ≤ k
  pub few_tasks : length (all_tasks (plan_tours plan)) + unmarked marks ≡ t.inst.now.required
  pub few_steps : length (steps_of plan) ≤ 1000 * (length (all_tasks (plan_tours plan)) + length plan)
  pub cost : ℕ → ℕ
  pub first : ℕ → Bool
  pub first_marked : (e : ℕ) → first e ≡ true → is_marked marks e ≡ true
  pub some_first : (e : ℕ) → is_marked marks e ≡ true → (f : ℕ) × IsRequired t.inst.now f × AreJoined t.decisions.now e f × IsTrue (first f)
  pub one_first : (e f : ℕ) → AreJoined t.decisions.now e f → IsTrue (first e) → IsTrue (first f) → e ≡ f
  pub costs : (e : ℕ) → IsTrue (first e) → HasChainCost t.inst.now t.decisions.now e (cost e)
  pub sum_is : plan_cost t.inst.now plan ≡ sum_to t.inst.now.required (λ e. if first e then cost e else 0)
