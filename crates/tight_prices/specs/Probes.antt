-- What a test of a price set finds. No public contract speaks of this.
use Rattle.std.specs.Prelude.{◌≡◌, ℕ, List, Option, Some, IfSome, ℤ, pos, ◌≤ℤ◌, ◌<ℤ◌}
use Rattle.carp_base.specs.Problem.{Problem, IsValid}
use Rattle.deadhead_paths.specs.Prices.{price_of}
use Rattle.decision_chains.specs.declared.decision.Decision.{Decision}
use Rattle.decision_chains.specs.Exclusions.{Excluded, PermitsUnexcluded}
use Rattle.route_pricing.specs.declared.table.Table.{Table}
use Rattle.branch_rules.specs.Prices.{Prices, PaysAtLeast, crossing_prices, task_adds}
use Rattle.branch_rules.specs.Refusals.{NoneTooHeavy}
use Rattle.tight_prices.specs.Fillings.{IsFilledFor}
use Rattle.tight_prices.specs.declared.probe.Setting.{Setting}
use Rattle.tight_prices.specs.declared.probe.Probe.{Probe}
use Rattle.tight_prices.specs.declared.probe.Probe.TheVariants.{Pays, Lacks, TooHeavy}

-- no deadhead price is negative, and each relaxed tour under the branch pays
pub record IsPaying (p : Problem) (pool : List (List ℕ)) (branch : List Decision) (set : Prices) : Type 0 where
  pub light : NoneTooHeavy p pool set
  pub tours : PaysAtLeast p (λ a b. ¬ (Excluded p branch a b)) (task_adds p set) (price_of (crossing_prices p pool set)) set.groups

-- what sets are tested against, as plain data
pub record Ground : Type 0 where
  pub problem : Problem
  pub pool : List (List ℕ)
  pub branch : List Decision

abbrev pub ground_of : Setting → Ground
ground_of c = record { problem = c.inst.now; pool = c.pool.now; branch = c.branch.now }

-- the instance is valid, the network is that of it, and the relation permits just the pairs that the branch does not exclude
pub record IsSetting (c : Setting) : Type 0 where
  pub valid : IsValid c.inst.now
  pub net : c.net.now ≡ c.inst.now
  pub permits : PermitsUnexcluded c.inst.now c.branch.now c.allowed.now

-- what is found of a set: that its tours pay, or that one does not, or that a deadhead price is negative
abbrev pub ProbeSays : Ground → Prices → Table → Probe → Type 0
ProbeSays g set table Pays = IsPaying g.problem g.pool g.branch set × IsFilledFor g.problem g.pool g.branch set table
ProbeSays g set table (Lacks value) = ¬ (IsPaying g.problem g.pool g.branch set) × IsFilledFor g.problem g.pool g.branch set table
ProbeSays g set table TooHeavy = ¬ (NoneTooHeavy g.problem g.pool set)

-- the least value of a tour, if there is one, as an outcome
abbrev pub IsOutcome : Option ℤ → Probe → Type 0
IsOutcome least Pays = IfSome least (λ value. pos 0 ≤ℤ value)
IsOutcome least (Lacks value) = (least ≡ Some value) × (value <ℤ pos 0)
IsOutcome least TooHeavy = ⊥
