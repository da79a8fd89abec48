-- Which edge, which shore or which pair a refusal names.
use Rattle.std.specs.Prelude.{◌≡◌, ℕ, ◌<◌, pos, ◌≤ℤ◌, ◌<ℤ◌, List, [], ◌∷◌, length, IsSome, IsTrue}
use Rattle.carp_base.specs.Problem.{Problem, IsEdgeNumber, edge_at}
use Rattle.carp_base.specs.declared.fail.Fail.{Fail}
use Rattle.carp_base.specs.declared.fail.Fail.TheVariants.{Memory, Refused}
use Rattle.branch_rules.specs.Bonds.{GroupWeight}
use Rattle.branch_rules.specs.Prices.{Prices, deadhead_price, group_at, weight_at}
use Rattle.branch_rules.specs.Decisions.{is_yes_pair, lowest}
use Rattle.branch_rules.specs.declared.branch.NoUpper.{NoUpper}
use Rattle.branch_rules.specs.declared.yes_pairs.NoYes.{NoYes}
use Rattle.decision_chains.specs.declared.decision.Decision.{Decision}
use Rattle.branch_rules.specs.declared.weight.Weight.{Weight}
use Rattle.branch_rules.specs.declared.price_set.TooHeavy.{TooHeavy}

-- no deadhead price is negative
abbrev pub NoneTooHeavy : Problem → List (List ℕ) → Prices → Type 0
NoneTooHeavy p pool set = (e : ℕ) → IsEdgeNumber p e → pos 0 ≤ℤ deadhead_price pool set (edge_at p e)

-- the least edge whose deadhead price is negative, and that price
pub record IsTooHeavy (p : Problem) (pool : List (List ℕ)) (set : Prices) (heavy : TooHeavy) : Type 0 where
  pub edge : IsEdgeNumber p heavy.edge
  pub price : heavy.price ≡ deadhead_price pool set (edge_at p heavy.edge)
  pub negative : heavy.price <ℤ pos 0
  pub before : (e : ℕ) → IsEdgeNumber p e → e < heavy.edge → pos 0 ≤ℤ deadhead_price pool set (edge_at p e)

-- a refusal names that edge
abbrev pub RefusesHeavy : Problem → List (List ℕ) → Prices → Fail TooHeavy → Type 0
RefusesHeavy p pool set Memory = Unit {0}
RefusesHeavy p pool set (Refused heavy) = IsTooHeavy p pool set heavy

-- the shore has an upper number if the weight on it is negative
abbrev pub HasUpper : List Decision → Weight → Type 0
HasUpper branch w = w.weight <ℤ pos 0 → IsSome (lowest w.shore branch)

-- the shore of the first negative weight whose shore has no upper number
pub record IsWithoutUpper (branch : List Decision) (set : Prices) (refusal : NoUpper) : Type 0 where
  pub place : ℕ
  pub in_range : place < length set.weights
  pub shore : refusal.shore ≡ (weight_at set place).shore
  pub lacks : ¬ (HasUpper branch (weight_at set place))
  pub before : (k : ℕ) → k < place → HasUpper branch (weight_at set k)

-- the branch says yes to the pair of the group if the weight on it is negative
abbrev pub HasYes : List Decision → GroupWeight → Type 0
HasYes branch w = w.weight <ℤ pos 0 → IsTrue (is_yes_pair branch w.edges)

-- the pair of the first negative weight on a group to which the branch does not say yes
pub record IsWithoutYes (branch : List Decision) (set : Prices) (refusal : NoYes) : Type 0 where
  pub place : ℕ
  pub in_range : place < length set.groups
  pub edges : (group_at set place).edges ≡ refusal.a ∷ refusal.b ∷ []
  pub lacks : ¬ (HasYes branch (group_at set place))
  pub before : (k : ℕ) → k < place → HasYes branch (group_at set k)
