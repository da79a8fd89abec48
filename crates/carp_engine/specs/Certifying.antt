-- The certificate of what a search found. No public contract speaks of this.
use Rattle.std.specs.Prelude.{◌≡◌, ◌⊎◌, ℕ, ◌≤◌, List, length, Some}
use Rattle.std.specs.List.{All}
use Rattle.carp_base.specs.Problem.{Problem}
use Rattle.plan_model.specs.Plans.{plan_cost}
use Rattle.plan_model.specs.declared.step.Step.{Step}
use Rattle.cut_pool.specs.Pools.{AreDifferent}
use Rattle.cut_pool.specs.Shores.{IsShore}
use Rattle.branch_rules.specs.Limits.{IsPriceSet}
use Rattle.branch_rules.specs.Prices.{Prices}
use Rattle.dual_master.specs.Raising.{HasShortGroups}
use Rattle.branch_tree.specs.Steps.{IsShortCut}
use Rattle.branch_tree.specs.Founds.{Findings, IsFound}
use Rattle.branch_tree.specs.Values.{IsFloored}
use Rattle.task_tours.specs.Shorts.{IsShortPlan}
use Rattle.cert_lines.specs.Certificates.{Certificate}
use Rattle.cert_format.specs.Good.{counts_in}

-- the certificate of what was found
abbrev pub certificate_by : Problem → Findings → Certificate
certificate_by p f = record {
  counts = Some (counts_in p);
  cost = plan_cost p f.plan;
  bound = f.bound;
  plan = f.plan;
  shores = f.pool;
  sets = f.sets;
  nodes = f.nodes;
}

-- what a pool and price sets are within their limits
pub record AreWithinLimits (pool : List (List ℕ)) (sets : List Prices) : Type 0 where
  pub few : length pool ≤ 2000
  pub different : AreDifferent pool
  pub shores : All IsShore pool
  pub fine : All IsPriceSet sets

pub record IsCertified (p : Problem) (f : Findings) (c : Certificate) : Type 0 where
  pub limits : AreWithinLimits f.pool f.sets
  pub certificate : c ≡ certificate_by p f

-- the groups of each price set are short, and the number of each cut is small
pub record IsTerse (c : Certificate) : Type 0 where
  pub short_groups : All HasShortGroups c.sets
  pub short_cuts : All IsShortCut c.nodes

-- what a search from a plan and a bound on found, and its certificate: the plan costs no more and is short if the first one was, the bound is
-- no lower, and it is below the cost only if the turns are at least the budget
pub record IsSearched (p : Problem) (least budget : ℕ) (plan : List (List Step)) (c : Certificate) (turns : ℕ) : Type 0 where
  pub found : Findings
  pub is_found : IsFound p found turns
  pub certified : IsCertified p found c
  pub no_dearer : plan_cost p found.plan ≤ plan_cost p plan
  pub short : IsShortPlan p plan → IsShortPlan p found.plan
  pub no_lower : least ≤ found.bound
  pub ended : (found.bound ≡ plan_cost p found.plan) ⊎ (budget ≤ turns)

-- the same of a search that began with the floors, whose certificate is terse
pub record IsSearchedAnew (p : Problem) (budget : ℕ) (plan : List (List Step)) (c : Certificate) (turns : ℕ) : Type 0 where
  pub least : ℕ
  pub floored : IsFloored p least
  pub searched : IsSearched p least budget plan c turns
  pub terse : IsTerse c
