-- Decisions that a branch may gain. No public contract speaks of this.
use Rattle.std.specs.Prelude.{ℕ, List}
use Rattle.carp_base.specs.Problem.{Problem}
use Rattle.decision_chains.specs.Pairs.{HasPairWithin}
use Rattle.decision_chains.specs.declared.decision.Decision.{Decision}
use Rattle.branch_rules.specs.Limits.{HasShoreOf, IsFineDecision}

-- a decision within the limits, on a pair of required edges, or on a shore of the pool that belongs to the instance
pub record IsDecisionIn (p : Problem) (pool : List (List ℕ)) (d : Decision) : Type 0 where
  pub fine : IsFineDecision d
  pub pair : HasPairWithin p.required d
  pub shore : HasShoreOf p pool d
