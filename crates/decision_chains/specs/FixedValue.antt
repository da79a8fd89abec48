-- The fixed value of a branch: the sum over its chains of the least cost of a walk that serves the chain.
use Rattle.std.specs.Prelude.{◌≡◌, ℕ, ◌≤◌, Bool, List, if◌then◌else◌, IsTrue}
use Rattle.carp_base.specs.Problem.{Problem, IsRequired}
use Rattle.plan_model.specs.Sums.{sum_to}
use Rattle.plan_model.specs.Plans.{IsWalk, walk_cost}
use Rattle.plan_model.specs.declared.step.Step.{Step}
use Rattle.deadhead_paths.specs.Tours.{IsFollowed}
use Rattle.decision_chains.specs.Neighbours.{served_edges, times}
use Rattle.decision_chains.specs.Exclusions.{IsYes, AreJoined}
use Rattle.decision_chains.specs.declared.decision.Decision.{Decision}

-- a walk that serves the chain of an edge in its order, each edge once and in either direction, and nothing else
pub record ServesChain (p : Problem) (branch : List Decision) (e : ℕ) (walk : List Step) : Type 0 where
  pub leads : IsWalk p walk
  pub just : (f : ℕ) → 1 ≤ times f (served_edges walk) → AreJoined branch e f
  pub each : (f : ℕ) → AreJoined branch e f → times f (served_edges walk) ≡ 1
  pub order : (a b : ℕ) → IsFollowed (served_edges walk) a b → IsYes branch a b

-- the least cost of a walk that serves the chain of an edge
pub record HasChainCost (p : Problem) (branch : List Decision) (e cost : ℕ) : Type 0 where
  pub walk : List Step
  pub serves : ServesChain p branch e walk
  pub costs : walk_cost p walk ≡ cost
  pub least : (other : List Step) → ServesChain p branch e other → cost ≤ walk_cost p other

-- the sum over chains, each by one edge of it, of the least cost of a walk that serves it
pub record HasFixedValue (p : Problem) (branch : List Decision) (value : ℕ) : Type 0 where
  pub cost : ℕ → ℕ
  pub first : ℕ → Bool
  pub some_first : (e : ℕ) → IsRequired p e → (f : ℕ) × IsRequired p f × AreJoined branch e f × IsTrue (first f)
  pub one_first : (e f : ℕ) → AreJoined branch e f → IsTrue (first e) → IsTrue (first f) → e ≡ f
  pub costs : (e : ℕ) → IsRequired p e → IsTrue (first e) → HasChainCost p branch e (cost e)
  pub sum_is : value ≡ sum_to p.required (λ e. if first e then cost e else 0)
