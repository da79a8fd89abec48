-- A certificate as plain data, and what lines say of it.
use Rattle.std.specs.Prelude.{ℕ, ◌+◌, ◌==◌, ℤ, Bool, true, false, List, [], ◌∷◌, ◌++◌, Option, Some, None, if◌then◌else◌}
use Rattle.std.specs.List.{list_any}
use Rattle.plan_model.specs.declared.step.Step.{Step}
use Rattle.branch_rules.specs.Bonds.{GroupWeight}
use Rattle.branch_rules.specs.Prices.{Prices}
use Rattle.branch_rules.specs.declared.weight.Weight.{Weight}
use Rattle.branch_rules.specs.declared.node.Node.{Node}
use Rattle.cert_lines.specs.declared.counts.Counts.{Counts}
use Rattle.cert_lines.specs.Lines.{counts, cost, bound, tour, shore, prices, weights, bonds, node}
use Rattle.cert_lines.specs.Order.{LatestFirst, version_of}

-- a plan with its cost, a bound, and what shows it: shores, price sets and the nodes of a tree in preorder. The numbers of the
-- instance may be missing.
pub record Certificate : Type 0 where
  pub counts : Option Counts
  pub cost : ℕ
  pub bound : ℕ
  pub plan : List (List Step)
  pub shores : List (List ℕ)
  pub sets : List Prices
  pub nodes : List Node

-- there is a group
abbrev pub some_group : List GroupWeight → Bool
some_group [] = false
some_group (w ∷ groups) = true

-- some price set has a group
abbrev pub has_groups : List Prices → Bool
has_groups sets = list_any (λ set. some_group set.groups) sets

abbrev pub counts_of : LatestFirst → Option Counts
counts_of [] = None
counts_of (counts c ∷ said) = Some c
counts_of (_ ∷ said) = counts_of said

abbrev pub cost_of : LatestFirst → ℕ
cost_of [] = 0
cost_of (cost n ∷ said) = n
cost_of (_ ∷ said) = cost_of said

abbrev pub bound_of : LatestFirst → ℕ
bound_of [] = 0
bound_of (bound n ∷ said) = n
bound_of (_ ∷ said) = bound_of said

abbrev pub plan_of : LatestFirst → List (List Step)
plan_of [] = []
plan_of (tour n steps ∷ said) = plan_of said ++ steps ∷ []
plan_of (_ ∷ said) = plan_of said

-- the steps of all tours
abbrev pub steps_of : LatestFirst → ℕ
steps_of [] = 0
steps_of (tour n steps ∷ said) = steps_of said + n
steps_of (_ ∷ said) = steps_of said

abbrev pub shores_of : LatestFirst → List (List ℕ)
shores_of [] = []
shores_of (shore n vertices ∷ said) = shores_of said ++ vertices ∷ []
shores_of (_ ∷ said) = shores_of said

-- the denominator of the latest prices
abbrev pub unit_of : LatestFirst → ℕ
unit_of [] = 0
unit_of (prices unit n services ∷ said) = unit
unit_of (_ ∷ said) = unit_of said

-- the latest prices
abbrev pub services_of : LatestFirst → List ℤ
services_of [] = []
services_of (prices unit n services ∷ said) = services
services_of (_ ∷ said) = services_of said

-- the latest weights
abbrev pub weights_of : LatestFirst → List Weight
weights_of [] = []
weights_of (weights n items ∷ said) = items
weights_of (_ ∷ said) = weights_of said

-- the price sets: each of the prices of one line and the weights of the next, in version 4 with the groups of the line after these, and
-- else with no group
abbrev pub sets_of : LatestFirst → List Prices
sets_of [] = []
sets_of (weights n items ∷ said) =
    if version_of said == 4 then sets_of said
    else sets_of said ++ record { unit = unit_of said; services = services_of said; weights = items; groups = [] } ∷ []
sets_of (bonds n groups rest ∷ said) =
    sets_of said ++ record { unit = unit_of said; services = services_of said; weights = weights_of said; groups = groups } ∷ []
sets_of (_ ∷ said) = sets_of said

abbrev pub nodes_of : LatestFirst → List Node
nodes_of [] = []
nodes_of (node x ∷ said) = nodes_of said ++ x ∷ []
nodes_of (_ ∷ said) = nodes_of said

-- the certificate of which the lines speak
abbrev pub certificate_of : LatestFirst → Certificate
certificate_of said = record {
  counts = counts_of said;
  cost = cost_of said;
  bound = bound_of said;
  plan = plan_of said;
  shores = shores_of said;
  sets = sets_of said;
  nodes = nodes_of said;
}
