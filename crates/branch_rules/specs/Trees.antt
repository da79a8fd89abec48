-- Trees of decisions, and the bound that they show.
use Rattle.std.specs.Prelude.{◌≡◌, ℕ, zero, suc, ◌+◌, ◌-◌, ◌≤◌, ◌<◌, pos, ◌-ℤ◌, ◌*ℤ◌, ◌<ℤ◌, List, [], ◌∷◌, ◌++◌, length, slice_index_or, ◌⊎◌, IfSome, false}
use Rattle.std.specs.List.{AllByRecursion}
use Rattle.carp_base.specs.Problem.{Problem, IsValid, IsRequired}
use Rattle.cut_pool.specs.Shores.{is_in}
use Rattle.branch_rules.specs.Prices.{Prices, Fits, value_of}
use Rattle.branch_rules.specs.Decisions.{rules_of, lower_of, lowest, IsVoid, IsFixed}
use Rattle.decision_chains.specs.Exclusions.{Excluded, IsDetermined}
use Rattle.decision_chains.specs.FixedValue.{HasFixedValue}
use Rattle.decision_chains.specs.declared.decision.Decision.{Decision}
use Rattle.decision_chains.specs.declared.decision.Decision.TheVariants.{Yes, No, Low, High}
use Rattle.branch_rules.specs.declared.node.Node.{Node}
use Rattle.branch_rules.specs.declared.node.Node.TheVariants.{Pair, Cut, Price, Void, Fixed}

-- a tree: a pair or a cut with two subtrees, or a leaf
pub data Tree : Type 0 where
  pair : (a b : ℕ) (together apart : Tree) → Tree
  cut : (shore k : ℕ) (below above : Tree) → Tree
  price : (set : ℕ) → Tree
  void : Tree
  fixed : Tree

-- the nodes of a tree, each before its children, the first child before the second
abbrev pub preorder : Tree → List Node
preorder (pair a b together apart) = Pair a b ∷ (preorder together ++ preorder apart)
preorder (cut shore k below above) = Cut shore k ∷ (preorder below ++ preorder above)
preorder (price set) = Price set ∷ []
preorder void = Void ∷ []
preorder fixed = Fixed ∷ []

-- a list of nodes, and the number of nodes for which there is memory
pub record NodeList : Type 0 where
  pub nodes : List Node
  pub room : ℕ

-- what a node with two children decides for the first one, and for the second one; a leaf decides nothing, which is read as a no to no pair
abbrev pub first_of : Node → Decision
first_of (Pair a b) = Yes a b
first_of (Cut shore k) = Low shore k
first_of (Price set) = No 0 0
first_of Void = No 0 0
first_of Fixed = No 0 0

abbrev pub second_of : Node → Decision
second_of (Pair a b) = No a b
second_of (Cut shore k) = High shore k
second_of (Price set) = No 0 0
second_of Void = No 0 0
second_of Fixed = No 0 0

-- the node at a place from 0
abbrev pub node_at : List Node → ℕ → Node
node_at nodes i = slice_index_or nodes i Void

-- what a certificate has beside its tree
pub record Support : Type 0 where
  pub problem : Problem
  pub pool : List (List ℕ)
  pub sets : List Prices

-- what stands if there is no price set
abbrev pub no_prices : Prices
no_prices = record { unit = 0; services = []; weights = []; groups = [] }

-- the price set of a number from 1; 0 and the numbers past the last one are of no set
abbrev pub set_at : Support → ℕ → Prices
set_at c zero = no_prices
set_at c (suc k) = slice_index_or c.sets k no_prices

-- the prices fit, and their value is above the denominator times the bound less 1
pub record PricesShow (c : Support) (branch : List Decision) (set : Prices) (bound : ℕ) : Type 0 where
  pub fits : Fits c.problem c.pool (rules_of c.problem c.pool branch) (λ a b. ¬ (Excluded c.problem branch a b)) set
  pub above : (pos set.unit *ℤ (pos bound -ℤ pos 1)) <ℤ value_of (rules_of c.problem c.pool branch) set

-- the same, for the price set of a number
abbrev pub PriceShows : Support → List Decision → ℕ → ℕ → Type 0
PriceShows c branch bound set = (1 ≤ set) × (set ≤ length c.sets) × PricesShow c branch (set_at c set) bound

-- a fixed branch, and a fixed value that is at least the bound
pub record FixedShows (c : Support) (branch : List Decision) (bound : ℕ) : Type 0 where
  pub settled : IsFixed c.problem c.pool branch
  pub value : ℕ
  pub fixed : HasFixedValue c.problem branch value
  pub enough : bound ≤ value

-- each leaf shows the bound under the decisions on the way to it
abbrev pub Shows : Support → List Decision → ℕ → Tree → Type 0
Shows c branch bound (pair a b together apart) =
    Shows c (branch ++ Yes a b ∷ []) bound together × Shows c (branch ++ No a b ∷ []) bound apart
Shows c branch bound (cut shore k below above) =
    Shows c (branch ++ Low shore k ∷ []) bound below × Shows c (branch ++ High shore k ∷ []) bound above
Shows c branch bound (price set) = PriceShows c branch bound set
Shows c branch bound void = IsVoid c.problem c.pool branch
Shows c branch bound fixed = FixedShows c branch bound

-- an inner node may stand under the decisions so far, if so many cuts may still be made: its pair is open, or a cut may be made and lies
-- within the numbers of its shore
abbrev pub IsLeanNode : Problem → List (List ℕ) → List Decision → ℕ → Node → Type 0
IsLeanNode p pool branch cuts (Pair a b) = ¬ (IsDetermined p branch a b)
IsLeanNode p pool branch cuts (Cut shore k) = (1 ≤ cuts) × (lower_of p pool branch shore ≤ k) × IfSome (lowest shore branch) (λ u. k < u)
IsLeanNode p pool branch cuts (Price set) = Unit {0}
IsLeanNode p pool branch cuts Void = Unit {0}
IsLeanNode p pool branch cuts Fixed = Unit {0}

-- each pair is open where it is split, each cut lies within the numbers of its shore, and no path has more than so many cuts
abbrev pub IsLean : Support → List Decision → ℕ → Tree → Type 0
IsLean c branch cuts (pair a b together apart) =
    IsLeanNode c.problem c.pool branch cuts (Pair a b) × IsLean c (branch ++ Yes a b ∷ []) cuts together × IsLean c (branch ++ No a b ∷ []) cuts apart
IsLean c branch cuts (cut shore k below above) =
    IsLeanNode c.problem c.pool branch cuts (Cut shore k)
    × IsLean c (branch ++ Low shore k ∷ []) (cuts - 1) below × IsLean c (branch ++ High shore k ∷ []) (cuts - 1) above
IsLean c branch cuts (price set) = Unit {0}
IsLean c branch cuts void = Unit {0}
IsLean c branch cuts fixed = Unit {0}

-- n is 1 if the fact holds, and 0 if it does not
abbrev pub IsTest : Type 0 → ℕ → Type 0
IsTest P n = (P × (n ≡ 1)) ⊎ (¬ P × (n ≡ 0))

-- the turns of a tree for a cost: its inner nodes, and its leaves that show the cost by themselves
abbrev pub HasTurns : Support → List Decision → ℕ → Tree → ℕ → Type 0
HasTurns c branch cost (pair a b together apart) n =
    (i j : ℕ) × HasTurns c (branch ++ Yes a b ∷ []) cost together i × HasTurns c (branch ++ No a b ∷ []) cost apart j × (n ≡ i + j + 1)
HasTurns c branch cost (cut shore k below above) n =
    (i j : ℕ) × HasTurns c (branch ++ Low shore k ∷ []) cost below i × HasTurns c (branch ++ High shore k ∷ []) cost above j × (n ≡ i + j + 1)
HasTurns c branch cost (price set) n = IsTest (PriceShows c branch cost set) n
HasTurns c branch cost void n = IsTest (IsVoid c.problem c.pool branch) n
HasTurns c branch cost fixed n = IsTest (FixedShows c branch cost) n

-- the same read off a list of nodes: each node stands under the first of the branches that wait
abbrev pub NodesShow : Support → ℕ → List Node → List (List Decision) → Type 0
NodesShow c bound [] [] = Unit {0}
NodesShow c bound [] (branch ∷ waiting) = ⊥
NodesShow c bound (node ∷ nodes) [] = ⊥
NodesShow c bound (Pair a b ∷ nodes) (branch ∷ waiting) = NodesShow c bound nodes ((branch ++ Yes a b ∷ []) ∷ (branch ++ No a b ∷ []) ∷ waiting)
NodesShow c bound (Cut shore k ∷ nodes) (branch ∷ waiting) = NodesShow c bound nodes ((branch ++ Low shore k ∷ []) ∷ (branch ++ High shore k ∷ []) ∷ waiting)
NodesShow c bound (Price set ∷ nodes) (branch ∷ waiting) = PriceShows c branch bound set × NodesShow c bound nodes waiting
NodesShow c bound (Void ∷ nodes) (branch ∷ waiting) = IsVoid c.problem c.pool branch × NodesShow c bound nodes waiting
NodesShow c bound (Fixed ∷ nodes) (branch ∷ waiting) = FixedShows c branch bound × NodesShow c bound nodes waiting

-- the pairs of the tree are of required edges
abbrev pub PairsIn : Problem → Tree → Type 0
PairsIn p (pair a b together apart) = IsRequired p a × IsRequired p b × PairsIn p together × PairsIn p apart
PairsIn p (cut shore k below above) = PairsIn p below × PairsIn p above
PairsIn p (price set) = Unit {0}
PairsIn p void = Unit {0}
PairsIn p fixed = Unit {0}

-- what a support must meet, whatever the tree: no shore has the depot, and each price set has a price for each required edge
pub record IsSoundSupport (c : Support) : Type 0 where
  pub valid : IsValid c.problem
  pub shores : AllByRecursion (λ shore. is_in shore c.problem.depot ≡ false) c.pool
  pub sets : (i : ℕ) → 1 ≤ i → i ≤ length c.sets → length (set_at c i).services ≡ c.problem.required
