-- Decisions whose pairs are of required edges.
use Rattle.std.specs.Prelude.{◌≢◌, ℕ, ◌≤◌, List}
use Rattle.std.specs.List.{All}
use Rattle.carp_base.specs.Problem.{Problem}
use Rattle.decision_chains.specs.declared.decision.Decision.{Decision}
use Rattle.decision_chains.specs.declared.decision.Decision.TheVariants.{Yes, No, Low, High}

-- a pair of two different edges among the first m
pub record IsPairWithin (m a b : ℕ) : Type 0 where
  pub a_from_one : 1 ≤ a
  pub a_in_range : a ≤ m
  pub b_from_one : 1 ≤ b
  pub b_in_range : b ≤ m
  pub different : a ≢ b

-- a decision on a pair is on two different edges among the first m
abbrev pub HasPairWithin : ℕ → Decision → Type 0
HasPairWithin m (Yes a b) = IsPairWithin m a b
HasPairWithin m (No a b) = IsPairWithin m a b
HasPairWithin m (Low shore k) = Unit {0}
HasPairWithin m (High shore k) = Unit {0}

-- the pairs of the decisions are of required edges
abbrev pub ArePairsIn : Problem → List Decision → Type 0
ArePairsIn p branch = All (HasPairWithin p.required) branch
