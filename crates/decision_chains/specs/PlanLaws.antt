-- Laws over fixed values.
use Rattle.std.specs.Prelude.{◌≡◌, ℕ, ◌≤◌, ◌↔◌, List}
use Rattle.carp_base.specs.Problem.{Problem, IsRequired}
use Rattle.plan_model.specs.Plans.{walk_cost}
use Rattle.plan_model.specs.declared.step.Step.{Step}
use Rattle.decision_chains.specs.Exclusions.{IsYes}
use Rattle.decision_chains.specs.declared.decision.Decision.{Decision}
use Rattle.decision_chains.specs.FixedValue.{ServesChain, HasFixedValue}

-- some walk that costs no more than this serves the chain of an edge
pub record IsServedWithin (p : Problem) (branch : List Decision) (e most : ℕ) : Type 0 where
  pub walk : List Step
  pub serves : ServesChain p branch e walk
  pub within : walk_cost p walk ≤ most

-- each walk that serves a chain of one instance has a walk of another one that serves it and costs no more
abbrev pub ChainsCostLess : (less more : Problem) (branch other : List Decision) → Type 0
ChainsCostLess less more branch other =
    (e : ℕ) (walk : List Step) → IsRequired more e → ServesChain more other e walk → IsServedWithin less branch e (walk_cost more walk)

-- with as many required edges and the same yes pairs, the fixed value is no more if chains cost no more
abbrev pub FixedValuesCompare : Type 0
FixedValuesCompare =
    (less more : Problem) (branch other : List Decision) (value most : ℕ) → more.required ≡ less.required → ((a b : ℕ) → IsYes other a b ↔ IsYes branch a b) →
    ChainsCostLess less more branch other → HasFixedValue less branch value → HasFixedValue more other most → value ≤ most

-- a branch has at most one fixed value
abbrev pub FixedValueIsUnique : Type 0
FixedValueIsUnique = (p : Problem) (branch : List Decision) (value other : ℕ) → HasFixedValue p branch value → HasFixedValue p branch other → value ≡ other
