-- What a number or a weight lacks for its sign. No public contract speaks of this.
use Rattle.std.specs.Prelude.{◌≡◌, ℤ, pos, neg_ℤ, ◌≤ℤ◌, ◌<ℤ◌, List, [], ◌∷◌}
use Rattle.branch_rules.specs.Refusals.{HasUpper, HasYes}
use Rattle.branch_rules.specs.Bonds.{GroupWeight}
use Rattle.branch_rules.specs.declared.branch.NoUpper.{NoUpper}
use Rattle.branch_rules.specs.declared.yes_pairs.NoYes.{NoYes}
use Rattle.decision_chains.specs.declared.decision.Decision.{Decision}
use Rattle.branch_rules.specs.declared.weight.Weight.{Weight}

-- the answer is the number itself, which is negative
pub record IsBelowNothing (number answer : ℤ) : Type 0 where
  pub same : answer ≡ number
  pub negative : number <ℤ pos 0
  pub low : neg_ℤ (pos 4000000000000000000) ≤ℤ number

-- the weight is negative, and its shore has no upper number
pub record LacksUpper (branch : List Decision) (w : Weight) (refusal : NoUpper) : Type 0 where
  pub shore : refusal.shore ≡ w.shore
  pub lacks : ¬ (HasUpper branch w)

-- the weight is negative, and the branch does not say yes to the pair of its group
pub record LacksYes (branch : List Decision) (w : GroupWeight) (refusal : NoYes) : Type 0 where
  pub edges : w.edges ≡ refusal.a ∷ refusal.b ∷ []
  pub lacks : ¬ (HasYes branch w)
