-- How many price sets a search holds, and how much they and the nodes of its tree take in a certificate.
use Rattle.std.specs.Prelude.{◌+◌, ◌≤◌, Bool, List, length}
use Rattle.std.specs.List.{All}
use Rattle.carp_base.specs.Problem.{Problem}
use Rattle.plan_model.specs.declared.step.Step.{Step}
use Rattle.dual_master.specs.Raising.{HasShortGroups}
use Rattle.branch_tree.specs.declared.search.Turn.{Turn}
use Rattle.branch_tree.specs.Searches.{IsBegun, State}
use Rattle.branch_tree.specs.Steps.{IsAsBefore, IsOffered, IsShortCut, IsStep}

-- at most one price set more than turns
abbrev pub HoldsFewSets : State → Type 0
HoldsFewSets s = length s.sets ≤ s.done + 1

-- A search that has just begun holds no more. Each step keeps that, also one for which memory did not suffice, and so does each plan that
-- is taken.
pub record SearchesHoldFewSets : Type 0 where
  pub begun : (p : Problem) (plan : List (List Step)) (s : State) → IsBegun p plan s → HoldsFewSets s
  pub stepped : (p : Problem) (before after : State) (turn : Turn) → length before.sets ≤ 256 → IsStep p before after turn → HoldsFewSets before → HoldsFewSets after
  pub failed : (before after : State) → IsAsBefore before after → HoldsFewSets before → HoldsFewSets after
  pub offered : (p : Problem) (before after : State) (taken : Bool) → IsOffered p before after taken → HoldsFewSets before → HoldsFewSets after

-- the groups of each price set are short, and no cut has a long number
pub record IsLight (s : State) : Type 0 where
  pub short_groups : All HasShortGroups s.sets
  pub short : All (λ entry. IsShortCut entry.node) s.nodes

-- A search that has just begun is light. Each step keeps that, also one for which memory did not suffice, and so does each plan that is
-- taken.
pub record SearchesStayLight : Type 0 where
  pub begun : (p : Problem) (plan : List (List Step)) (s : State) → IsBegun p plan s → IsLight s
  pub stepped : (p : Problem) (before after : State) (turn : Turn) → length before.sets ≤ 256 → IsStep p before after turn → IsLight before → IsLight after
  pub failed : (before after : State) → IsAsBefore before after → IsLight before → IsLight after
  pub offered : (p : Problem) (before after : State) (taken : Bool) → IsOffered p before after taken → IsLight before → IsLight after
