-- When a certificate is good for an instance: then its plan is lawful and costs what is stated, and no lawful plan costs less than
-- its bound.
use Rattle.std.specs.Prelude.{◌≡◌, List, [], length, Some, IfSome}
use Rattle.std.specs.List.{All}
use Rattle.carp_base.specs.Problem.{Problem, IsValid, total_demand}
use Rattle.plan_model.specs.Plans.{IsLawful, plan_cost}
use Rattle.plan_model.specs.declared.step.Step.{Step}
use Rattle.plan_model.specs.Laws.{IsLowerBound}
use Rattle.cut_pool.specs.Shores.{Belongs}
use Rattle.branch_rules.specs.Prices.{Prices}
use Rattle.branch_rules.specs.Refusals.{NoneTooHeavy}
use Rattle.branch_rules.specs.Trees.{Tree, preorder, Support, IsLean, Shows, PairsIn}
use Rattle.cert_lines.specs.declared.counts.Counts.{Counts}
use Rattle.cert_lines.specs.Certificates.{Certificate}
use Rattle.cert_lines.specs.Ranges.{AreCountsInRange, IsWithin}
use Rattle.cert_lines.specs.Spelling.{IsSpellable}

-- the numbers of an instance
abbrev pub counts_in : Problem → Counts
counts_in p = record { vertices = p.vertices; edges = length p.edges; required = p.required; capacity = p.capacity; demand = total_demand p }

-- the certificate with the numbers of the instance
abbrev pub with_counts : Problem → Certificate → Certificate
with_counts p c = record {
  counts = Some (counts_in p);
  cost = c.cost;
  bound = c.bound;
  plan = c.plan;
  shores = c.shores;
  sets = c.sets;
  nodes = c.nodes;
}

-- what a certificate has beside its tree, for an instance
abbrev pub support_of : Problem → Certificate → Support
support_of p c = record { problem = p; pool = c.shores; sets = c.sets }

-- each price set has a price for each required edge
abbrev pub HasPriceEach : Problem → Prices → Type 0
HasPriceEach p set = length set.services ≡ p.required

-- If the certificate states numbers of the instance, they are those of the instance; the plan is lawful and costs what is stated; each
-- shore is of vertices of the instance without the depot; each price set has a price for each required edge, and no negative price of a
-- deadhead; the nodes are a lean tree, with pairs of required edges, which shows the bound.
pub record IsGood (p : Problem) (c : Certificate) : Type 0 where
  pub counts : IfSome c.counts (λ k. k ≡ counts_in p)
  pub lawful : IsLawful p c.plan
  pub cost : c.cost ≡ plan_cost p c.plan
  pub shores : All (Belongs p) c.shores
  pub prices : All (HasPriceEach p) c.sets
  pub deadheads : All (NoneTooHeavy p c.shores) c.sets
  pub tree : Tree
  pub nodes : preorder tree ≡ c.nodes
  pub pairs : PairsIn p tree
  pub lean : IsLean (support_of p c) [] 4 tree
  pub shows : Shows (support_of p c) [] c.bound tree

-- what a good certificate says of the instance
pub record IsProof (p : Problem) (c : Certificate) : Type 0 where
  pub lawful : IsLawful p c.plan
  pub cost : c.cost ≡ plan_cost p c.plan
  pub bounds : IsLowerBound p c.bound

-- the numbers of an instance are in their ranges
abbrev pub CountsAreInRange : Type 0
CountsAreInRange = (p : Problem) → IsValid p → AreCountsInRange (counts_in p)

-- a good certificate that can be spelled stays so with the numbers of the instance
abbrev pub CountsKeepGood : Type 0
CountsKeepGood = (p : Problem) (c : Certificate) → IsValid p → IsGood p c → IsSpellable c → IsGood p (with_counts p c) × IsSpellable (with_counts p c)

-- a good certificate is a proof
abbrev pub GoodIsProof : Type 0
GoodIsProof = (p : Problem) (c : Certificate) → IsValid p → IsGood p c → IsProof p c

-- each step of a lawful plan of a valid instance is on an edge whose number is in its range
abbrev pub PlansAreOnEdges : Type 0
PlansAreOnEdges = (p : Problem) (plan : List (List Step)) → IsValid p → IsLawful p plan → All (All (λ s. IsWithin 1 4000 s.edge)) plan
