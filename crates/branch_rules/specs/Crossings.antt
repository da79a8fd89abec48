-- Shores whose upper number is below the lower one. No public contract speaks of this.
use Rattle.std.specs.Prelude.{◌≡◌, ℕ, ◌<◌, ◌≤◌, List, Some}
use Rattle.carp_base.specs.Problem.{Problem}
use Rattle.branch_rules.specs.Decisions.{lowest, lower_of}
use Rattle.decision_chains.specs.declared.decision.Decision.{Decision}
use Rattle.decision_chains.specs.declared.decision.Decision.TheVariants.{Yes, No, Low, High}

-- the upper number of a shore is below its lower number
pub record IsCrossed (p : Problem) (pool : List (List ℕ)) (branch : List Decision) : Type 0 where
  pub shore : ℕ
  pub k : ℕ
  pub upper : lowest shore branch ≡ Some k
  pub below : k < lower_of p pool branch shore

-- the number of a low decision is not below the lower number of its shore
abbrev pub IsUncrossed : Problem → List (List ℕ) → List Decision → Decision → Type 0
IsUncrossed p pool branch (Yes a b) = Unit {0}
IsUncrossed p pool branch (No a b) = Unit {0}
IsUncrossed p pool branch (Low shore k) = lower_of p pool branch shore ≤ k
IsUncrossed p pool branch (High shore k) = Unit {0}

-- the decision is a low one, and its number is below the lower number of its shore
abbrev pub IsCrossing : Problem → List (List ℕ) → List Decision → Decision → Type 0
IsCrossing p pool branch (Yes a b) = ⊥
IsCrossing p pool branch (No a b) = ⊥
IsCrossing p pool branch (Low shore k) = k < lower_of p pool branch shore
IsCrossing p pool branch (High shore k) = ⊥
