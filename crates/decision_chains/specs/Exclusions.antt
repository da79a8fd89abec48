-- Yes and no to pairs of edges, the chains that yes pairs make, and the pairs that these exclude (Bode and Irnich 2012).
use Rattle.std.specs.Prelude.{◌≡◌, ◌≢◌, ℕ, ◌<◌, Bool, true, false, ◌&&◌, ◌||◌, ◌==◌, not, List, [], ◌∷◌, sum_by, IsTrue, ◌⊎◌, Option, Some, None}
use Rattle.std.specs.List.{AllByRecursion, list_any}
use Rattle.carp_base.specs.Allowed.{Relation, allows}
use Rattle.carp_base.specs.Problem.{Problem, IsRequired, edge_at}
use Rattle.decision_chains.specs.declared.decision.Decision.{Decision}
use Rattle.decision_chains.specs.declared.decision.Decision.TheVariants.{Yes, No, Low, High}

-- the decision is a yes to the pair, in either order
abbrev pub says_yes : ℕ → ℕ → Decision → Bool
says_yes a b (Yes c d) = ((c == a) && (d == b)) || ((c == b) && (d == a))
says_yes a b (No c d) = false
says_yes a b (Low shore k) = false
says_yes a b (High shore k) = false

-- the decision is a no to the pair, in either order
abbrev pub says_no : ℕ → ℕ → Decision → Bool
says_no a b (Yes c d) = false
says_no a b (No c d) = ((c == a) && (d == b)) || ((c == b) && (d == a))
says_no a b (Low shore k) = false
says_no a b (High shore k) = false

-- the branch says yes to the pair
abbrev pub IsYes : List Decision → ℕ → ℕ → Type 0
IsYes branch a b = IsTrue (list_any (says_yes a b) branch)

-- the branch says no to the pair
abbrev pub IsNo : List Decision → ℕ → ℕ → Type 0
IsNo branch a b = IsTrue (list_any (says_no a b) branch)

-- a path of yes pairs
abbrev pub YesPath : List Decision → ℕ → List ℕ → ℕ → Type 0
YesPath branch a [] b = a ≡ b
YesPath branch a (x ∷ xs) b = IsYes branch a x × YesPath branch x xs b

-- two edges are of one chain: those that yes pairs join, and an edge without a yes pair by itself
abbrev pub AreJoined : List Decision → ℕ → ℕ → Type 0
AreJoined branch a b = (path : List ℕ) × YesPath branch a path b

-- a path of yes pairs that never crosses between a and b directly
abbrev pub Detour : List Decision → ℕ → ℕ → ℕ → List ℕ → ℕ → Type 0
Detour branch a b x [] y = x ≡ y
Detour branch a b x (z ∷ zs) y = IsYes branch x z × ¬ ((x ≡ a) × (z ≡ b)) × ¬ ((x ≡ b) × (z ≡ a)) × Detour branch a b z zs y

-- an end of a chain has at most one yes neighbour
abbrev pub IsChainEnd : List Decision → ℕ → Type 0
IsChainEnd branch a = (x y : ℕ) → IsYes branch a x → IsYes branch a y → x ≡ y

-- on the way along yes pairs over an edge that was reached from b, or from none, this edge is the next, or there is none
abbrev pub LeadsOn : List Decision → ℕ → ℕ → Option ℕ → Type 0
LeadsOn branch e b None = (z : ℕ) → IsYes branch e z → z ≡ b
LeadsOn branch e b (Some n) =
    IsYes branch e n × (n ≢ b) × (IsYes branch e b ⊎ IsChainEnd branch e → (z : ℕ) → IsYes branch e z → (z ≡ b) ⊎ (z ≡ n))

-- two yes neighbours other than b
pub record HasTwoOthers (branch : List Decision) (a b : ℕ) : Type 0 where
  pub x : ℕ
  pub y : ℕ
  pub x_yes : IsYes branch a x
  pub y_yes : IsYes branch a y
  pub apart : x ≢ y
  pub x_other : x ≢ b
  pub y_other : y ≢ b

-- all different
abbrev pub AreDistinct : List ℕ → Type 0
AreDistinct [] = Unit {0}
AreDistinct (e ∷ es) = IsTrue (not (list_any (λ x. x == e) es)) × AreDistinct es

-- some different required edges of the chains of a and b together weigh more than the capacity
pub record IsHeavy (p : Problem) (branch : List Decision) (a b : ℕ) : Type 0 where
  pub edges : List ℕ
  pub distinct : AreDistinct edges
  pub joined : AllByRecursion (λ e. IsRequired p e × (AreJoined branch a e ⊎ AreJoined branch b e)) edges
  pub over : p.capacity < sum_by (λ e. (edge_at p e).demand) edges

-- why two edges can't be neighbours in a plan that meets the branch: they are one edge; a decision says no; one of them has two
-- yes neighbours besides; they are the two ends of a chain; or their two chains together are above the capacity
pub data Excluded (p : Problem) (branch : List Decision) (a b : ℕ) : Type 0 where
  same : a ≡ b → Excluded p branch a b
  said_no : IsNo branch a b → Excluded p branch a b
  first_full : HasTwoOthers branch a b → Excluded p branch a b
  second_full : HasTwoOthers branch b a → Excluded p branch a b
  closes : AreJoined branch a b → IsChainEnd branch a → IsChainEnd branch b → ¬ (IsYes branch a b) → Excluded p branch a b
  heavy : ¬ (AreJoined branch a b) → IsHeavy p branch a b → Excluded p branch a b

-- a pair is determined if it is yes or excluded
abbrev pub IsDetermined : Problem → List Decision → ℕ → ℕ → Type 0
IsDetermined p branch a b = IsYes branch a b ⊎ Excluded p branch a b

-- a relation on the required edges permits exactly the pairs that are not excluded
pub record PermitsUnexcluded (p : Problem) (branch : List Decision) (r : Relation) : Type 0 where
  pub on : r.size ≡ p.required
  pub permitted : (a b : ℕ) → IsRequired p a → IsRequired p b → allows r a b ≡ true → ¬ (Excluded p branch a b)
  pub refused : (a b : ℕ) → IsRequired p a → IsRequired p b → allows r a b ≡ false → Excluded p branch a b
