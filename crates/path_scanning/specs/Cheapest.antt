-- The cheapest of the scans by several rules.
use Rattle.std.specs.Prelude.{ℕ, ◌<◌, ◌≤◌, List}
use Rattle.carp_base.specs.Problem.{Problem}
use Rattle.plan_model.specs.declared.step.Step.{Step}
use Rattle.plan_model.specs.Plans.{plan_cost}
use Rattle.path_scanning.specs.declared.rule.Rule.{Rule}
use Rattle.path_scanning.specs.declared.rule.Rule.TheVariants.{Far, Near, Cheap, Dear, Half}
use Rattle.path_scanning.specs.Scans.{IsScanned}

-- the place of a rule among all, from 0
abbrev pub rule_place : Rule → ℕ
rule_place Far = 0
rule_place Near = 1
rule_place Cheap = 2
rule_place Dear = 3
rule_place Half = 4

-- the scan by one of the first n rules: each scan by one of these costs at least as much, and by an earlier rule more
pub record IsCheapestOf (p : Problem) (n : ℕ) (plan : List (List Step)) : Type 0 where
  pub rule : Rule
  pub among : rule_place rule < n
  pub scanned : IsScanned p rule plan
  pub cheapest : (other : Rule) (scan : List (List Step)) → rule_place other < n → IsScanned p other scan → plan_cost p plan ≤ plan_cost p scan
  pub first : (other : Rule) (scan : List (List Step)) → rule_place other < rule_place rule → IsScanned p other scan → plan_cost p plan < plan_cost p scan
