-- Laws over yes pairs, the chains that they make, and excluded pairs.
use Rattle.std.specs.Prelude.{◌≡◌, ℕ, ◌≤◌, true, ◌⊎◌, List, sum_by}
use Rattle.std.specs.List.{All, AllByRecursion}
use Rattle.carp_base.specs.Problem.{Problem}
use Rattle.decision_chains.specs.Neighbours.{times}
use Rattle.decision_chains.specs.Exclusions.{says_yes, says_no, IsYes, IsNo, YesPath, AreJoined, Detour, AreDistinct, Excluded}
use Rattle.decision_chains.specs.Pairs.{IsPairWithin, HasPairWithin}
use Rattle.decision_chains.specs.declared.decision.Decision.{Decision}
use Rattle.decision_chains.specs.declared.decision.Decision.TheVariants.{Yes, No}

-- yes and no are said of a pair in either order, yes pairs are of two edges in range, and what they join is an equivalence
pub record YesPairsJoin : Type 0 where
  pub names_yes : (a b : ℕ) (d : Decision) → says_yes a b d ≡ true → (d ≡ Yes a b) ⊎ (d ≡ Yes b a)
  pub names_no : (a b : ℕ) (d : Decision) → says_no a b d ≡ true → (d ≡ No a b) ⊎ (d ≡ No b a)
  pub yes_turned : (branch : List Decision) (a b : ℕ) → IsYes branch a b → IsYes branch b a
  pub no_turned : (branch : List Decision) (a b : ℕ) → IsNo branch a b → IsNo branch b a
  pub within : (m a b : ℕ) (branch : List Decision) → All (HasPairWithin m) branch → IsYes branch a b → IsPairWithin m a b
  pub turned : (branch : List Decision) (a b : ℕ) → AreJoined branch a b → AreJoined branch b a
  pub on : (branch : List Decision) (a b c : ℕ) → AreJoined branch a b → AreJoined branch b c → AreJoined branch a c
  pub detour : (branch : List Decision) (a b x : ℕ) (path : List ℕ) (y : ℕ) → ¬ (IsYes branch a b) → YesPath branch x path y → Detour branch a b x path y

-- the order of an excluded pair is free, so the allowed pairs of a branch are a symmetric relation
abbrev pub ExcludedIsSymmetric : Type 0
ExcludedIsSymmetric = (p : Problem) (branch : List Decision) (a b : ℕ) → Excluded p branch a b → Excluded p branch b a

-- different edges that all stand in a list sum to no more than the list
abbrev pub DistinctSumToNoMore : Type 0
DistinctSumToNoMore = (f : ℕ → ℕ) (edges list : List ℕ) → AreDistinct edges → AllByRecursion (λ e. 1 ≤ times e list) edges → sum_by f edges ≤ sum_by f list
