-- A certificate without its nodes, beside an instance, as plain data, and what the tests of the nodes may rest on.
use Rattle.std.specs.Prelude.{ℕ, ◌≤◌, List, length}
use Rattle.std.specs.List.{All}
use Rattle.cut_pool.specs.Pools.{IsShoreNumber}
use Rattle.cut_pool.specs.Shores.{Belongs}
use Rattle.branch_rules.specs.Prices.{Prices}
use Rattle.branch_rules.specs.Refusals.{NoneTooHeavy}
use Rattle.branch_rules.specs.Trees.{Support}
use Rattle.branch_rules.specs.declared.node.Node.{Node}
use Rattle.branch_rules.specs.declared.node.Node.TheVariants as nodes
use Rattle.cert_lines.specs.Certificates.{Certificate}
use Rattle.cert_format.specs.Good.{HasPriceEach}
use Rattle.cert_checker.specs.declared.claim.Claim.{Claim}

-- what nodes are tested against
abbrev pub support_in : Claim → Support
support_in c = record { problem = c.inst.now; pool = c.shores.now; sets = c.sets.now }

-- the certificate of these nodes
abbrev pub claimed : Claim → List Node → Certificate
claimed c nodes = record {
  counts = c.counts;
  cost = c.cost;
  bound = c.bound;
  plan = c.plan.now;
  shores = c.shores.now;
  sets = c.sets.now;
  nodes = nodes;
}

-- the number of a price set
pub record IsSetNumber (s : Support) (set : ℕ) : Type 0 where
  pub from_one : 1 ≤ set
  pub in_range : set ≤ length s.sets

-- a price set as a certificate that can be spelled has it: its weights are on shores of the pool
abbrev pub IsSetRead : Support → Prices → Type 0
IsSetRead s set = All (λ w. IsShoreNumber s.pool w.shore) set.weights

-- each shore belongs to the instance, and each price set has its prices, its shores, and no negative price of a deadhead
pub record IsBacked (s : Support) : Type 0 where
  pub belong : All (Belongs s.problem) s.pool
  pub prices : All (HasPriceEach s.problem) s.sets
  pub deadheads : All (NoneTooHeavy s.problem s.pool) s.sets
  pub sets_read : All (IsSetRead s) s.sets

-- a node as a certificate that can be spelled has it: its shore and its price set are there
abbrev pub IsNodeRead : Support → Node → Type 0
IsNodeRead s (nodes.Pair a b) = Unit {0}
IsNodeRead s (nodes.Cut border k) = IsShoreNumber s.pool border × (k ≤ 1000000)
IsNodeRead s (nodes.Price set) = IsSetNumber s set
IsNodeRead s nodes.Void = Unit {0}
IsNodeRead s nodes.Fixed = Unit {0}
