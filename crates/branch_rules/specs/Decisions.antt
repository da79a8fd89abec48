-- What a plan must do to meet its decisions, the numbers of shores, and void and fixed branches (Bode and Irnich 2012).
use Rattle.std.specs.Prelude.{◌≡◌, ◌≢◌, ℕ, ◌+◌, ◌%◌, ◌≤◌, ◌<◌, Bool, true, false, ◌==◌, List, [], ◌∷◌, if◌then◌else◌, count_by, Option, Some, None, max}
use Rattle.std.specs.List.{AllByRecursion, list_any}
use Rattle.carp_base.specs.Problem.{Problem, IsRequired}
use Rattle.plan_model.specs.Plans.{deadheads_over}
use Rattle.plan_model.specs.Offers.{smaller}
use Rattle.plan_model.specs.declared.step.Step.{Step}
use Rattle.cut_pool.specs.Shores.{is_in, need, required_crossings}
use Rattle.cut_pool.specs.Pools.{shore_at}
use Rattle.decision_chains.specs.Neighbours.{AreNeighbours}
use Rattle.decision_chains.specs.Exclusions.{says_yes, IsYes, HasTwoOthers, Detour, IsHeavy, IsDetermined}
use Rattle.branch_rules.specs.Bonds.{room}
use Rattle.branch_rules.specs.Prices.{Rules}
use Rattle.decision_chains.specs.declared.decision.Decision.{Decision}
use Rattle.decision_chains.specs.declared.decision.Decision.TheVariants.{Yes, No, Low, High}

-- a plan meets a decision
abbrev pub Meets : Problem → List (List ℕ) → List (List Step) → Decision → Type 0
Meets p pool plan (Yes a b) = AreNeighbours plan a b
Meets p pool plan (No a b) = ¬ (AreNeighbours plan a b)
Meets p pool plan (Low shore k) = deadheads_over p (is_in (shore_at pool shore)) plan ≤ k
Meets p pool plan (High shore k) = k + 1 ≤ deadheads_over p (is_in (shore_at pool shore)) plan

-- a plan meets a branch, which is a list of decisions
abbrev pub MeetsAll : Problem → List (List ℕ) → List (List Step) → List Decision → Type 0
MeetsAll p pool plan branch = AllByRecursion (Meets p pool plan) branch

-- the greatest k + 1 of the high decisions on a shore, or 0 if there is none
abbrev pub highest : ℕ → List Decision → ℕ
highest shore [] = 0
highest shore (Yes a b ∷ rest) = highest shore rest
highest shore (No a b ∷ rest) = highest shore rest
highest shore (Low s k ∷ rest) = highest shore rest
highest shore (High s k ∷ rest) = if s == shore then max (k + 1) (highest shore rest) else highest shore rest

-- the upper number of a shore: the least k of its low decisions, if there is one
abbrev pub lowest : ℕ → List Decision → Option ℕ
lowest shore [] = None
lowest shore (Yes a b ∷ rest) = lowest shore rest
lowest shore (No a b ∷ rest) = lowest shore rest
lowest shore (Low s k ∷ rest) = if s == shore then smaller (Some k) (lowest shore rest) else lowest shore rest
lowest shore (High s k ∷ rest) = lowest shore rest

-- the least number of the parity of r that is at least n
abbrev pub to_parity : ℕ → ℕ → ℕ
to_parity r n = n + (n + r) % 2

-- the lower number of a shore: the least number of the parity of its required crossings that is at least its need, and at least
-- k + 1 of each high decision
abbrev pub lower_of : Problem → List (List ℕ) → List Decision → ℕ → ℕ
lower_of p pool branch shore =
    let inside = is_in (shore_at pool shore) in
    to_parity (required_crossings p inside) (max (need p inside) (highest shore branch))

-- the group is a pair, and the branch says yes to it
abbrev pub is_yes_pair : List Decision → List ℕ → Bool
is_yes_pair branch [] = false
is_yes_pair branch (a ∷ []) = false
is_yes_pair branch (a ∷ b ∷ []) = list_any (says_yes a b) branch
is_yes_pair branch (a ∷ b ∷ c ∷ rest) = false

-- the lower and upper numbers and the yes pairs of a branch, and the room of groups, which is the same under each branch
abbrev pub rules_of : Problem → List (List ℕ) → List Decision → Rules
rules_of p pool branch = record { lower = lower_of p pool branch; upper = λ shore. lowest shore branch; room = room p; together = is_yes_pair branch }

-- why no lawful plan meets the branch: an edge has three yes neighbours or more; yes pairs form a cycle; a chain is above the
-- capacity; or the upper number of a shore is below its lower number
pub data IsVoid (p : Problem) (pool : List (List ℕ)) (branch : List Decision) : Type 0 where
  three : (a b : ℕ) → IsYes branch a b → HasTwoOthers branch a b → IsVoid p pool branch
  cycle : (a b : ℕ) (path : List ℕ) → a ≢ b → IsYes branch a b → Detour branch a b a path b → IsVoid p pool branch
  heavy_chain : (a : ℕ) → IsHeavy p branch a a → IsVoid p pool branch
  crossed : (shore k : ℕ) → lowest shore branch ≡ Some k → k < lower_of p pool branch shore → IsVoid p pool branch

-- the decision is on a shore
abbrev pub is_cut : Decision → Bool
is_cut (Yes a b) = false
is_cut (No a b) = false
is_cut (Low shore k) = true
is_cut (High shore k) = true

-- the number of decisions on shores
abbrev pub cuts_of : List Decision → ℕ
cuts_of branch = count_by is_cut branch

-- the branch is not void, and each pair of required edges is determined
pub record IsFixed (p : Problem) (pool : List (List ℕ)) (branch : List Decision) : Type 0 where
  pub open_yet : ¬ (IsVoid p pool branch)
  pub settled : (a b : ℕ) → IsRequired p a → IsRequired p b → IsDetermined p branch a b

-- the neighbours in the plan are exactly the yes pairs of the branch
pub record Spells (branch : List Decision) (plan : List (List Step)) : Type 0 where
  pub each_yes : (a b : ℕ) → IsYes branch a b → AreNeighbours plan a b
  pub only_yes : (a b : ℕ) → AreNeighbours plan a b → IsYes branch a b
