-- Laws over trees that grow at a leaf, and over branches that gain a decision.
use Rattle.std.specs.Prelude.{◌≡◌, ℕ, ◌+◌, ◌^◌, ◌<◌, ◌≤◌, ◌↔◌, ◌≤ℤ◌, List, [], ◌∷◌, ◌++◌, take, drop, map, length, slice_index_or}
use Rattle.std.specs.List.{All}
use Rattle.carp_base.specs.Problem.{Problem}
use Rattle.decision_chains.specs.declared.decision.Decision.{Decision}
use Rattle.decision_chains.specs.declared.decision.Decision.TheVariants.{Yes, No, Low, High}
use Rattle.decision_chains.specs.Exclusions.{Excluded, IsDetermined, IsHeavy}
use Rattle.branch_rules.specs.Decisions.{rules_of}
use Rattle.branch_rules.specs.Laws.{FitsBranch}
use Rattle.branch_rules.specs.Limits.{IsNodeIn}
use Rattle.branch_rules.specs.Prices.{Prices, value_of}
use Rattle.branch_rules.specs.Trees.{Tree, preorder, Support, Shows, IsLean, HasTurns, PairsIn}
use Rattle.grown_trees.specs.Growth.{Fraction, IsSpelledNode, IsSoundNode, AreSound, turns_in}
use Rattle.grown_trees.specs.Places.{IsFineNode, IsLeafAt, branch_to, grown}
use Rattle.grown_trees.specs.Stands.{stands, PricesFit, with_sets, with_shores, HoldsShores}
use Rattle.grown_trees.specs.declared.growing.GrowingNode.{GrowingNode}

-- if a leaf gives way to another tree whose nodes are sound under the decisions on the way to the leaf, the nodes stay sound
abbrev pub GrownIsSound : Type 0
GrownIsSound = (c : Support) (base : Fraction) (tree sub : Tree) (i : ℕ) (entries news : List GrowingNode) → IsLeafAt tree i →
    AreSound c base (stands [] tree) entries → AreSound c base (stands (branch_to [] tree i) sub) news →
    AreSound c base (stands [] (grown tree i sub)) (take i entries ++ (news ++ drop (i + 1) entries))

-- more price sets behind those of a support leave the nodes of each tree sound
abbrev pub MoreSetsKeepSound : Type 0
MoreSetsKeepSound = (c : Support) (base : Fraction) (more : List Prices) (branch : List Decision) (tree : Tree) (entries : List GrowingNode) →
    AreSound c base (stands branch tree) entries → AreSound (with_sets c more) base (stands branch tree) entries

-- so do more shores behind those of its pool, which held those of the price sets
abbrev pub MoreShoresKeepSound : Type 0
MoreShoresKeepSound = (c : Support) (base : Fraction) (more : List (List ℕ)) (branch : List Decision) (tree : Tree) (entries : List GrowingNode) →
    HoldsShores c → AreSound c base (stands branch tree) entries → AreSound (with_shores c more) base (stands branch tree) entries

-- what a tree of sound nodes is
pub record IsSoundTree (c : Support) (tree : Tree) (entries : List GrowingNode) : Type 0 where
  pub nodes : preorder tree ≡ map (λ entry. entry.node) entries
  pub inside : All (IsNodeIn c.problem c.pool) (preorder tree)
  pub fine : All IsFineNode (preorder tree)
  pub spelled : All (IsSpelledNode (length c.sets)) (preorder tree)
  pub pairs : PairsIn c.problem tree
  pub lean : IsLean c [] 4 tree
  pub fits : PricesFit c [] tree
  pub turns : (cost : ℕ) → cost < 10 ^ 18 → HasTurns c [] cost tree (turns_in cost entries)
  pub shows : (bound : ℕ) → bound < 10 ^ 18 → Shows c [] bound tree ↔ All (λ entry. bound ≤ entry.shows) entries

-- a tree of sound nodes has them in preorder, is lean, its price leaves name sets that fit, its turns for a cost are its nodes that show
-- the cost, and it shows a bound exactly if each node does
abbrev pub SoundIsTree : Type 0
SoundIsTree = (c : Support) (base : Fraction) (tree : Tree) (entries : List GrowingNode) → AreSound c base (stands [] tree) entries → IsSoundTree c tree entries

-- a node at a place is sound under the decisions on the way to it
abbrev pub SoundAtPlace : Type 0
SoundAtPlace = (c : Support) (base : Fraction) (tree : Tree) (entries : List GrowingNode) (i : ℕ) (other : GrowingNode) → AreSound c base (stands [] tree) entries → i < length entries →
    IsSoundNode c base (record { branch = branch_to [] tree i; node = (slice_index_or entries i other).node }) (slice_index_or entries i other)

-- if it does not show some bound, it is a leaf
abbrev pub UnshownIsLeaf : Type 0
UnshownIsLeaf = (c : Support) (base : Fraction) (tree : Tree) (entries : List GrowingNode) (i : ℕ) (other : GrowingNode) → AreSound c base (stands [] tree) entries → i < length entries →
    (slice_index_or entries i other).shows + 1 < 10 ^ 18 → IsLeafAt tree i

-- a decision may be added to a branch: a yes or a no to a pair that is not determined, or any decision on a shore
abbrev pub IsOpenDecision : Problem → List Decision → Decision → Type 0
IsOpenDecision p branch (Yes a b) = ¬ (IsDetermined p branch a b)
IsOpenDecision p branch (No a b) = ¬ (IsDetermined p branch a b)
IsOpenDecision p branch (Low shore k) = Unit {0}
IsOpenDecision p branch (High shore k) = Unit {0}

-- a price set that fitted fits under such a decision, and has no lower value there
pub record IsKept (p : Problem) (pool : List (List ℕ)) (branch : List Decision) (decision : Decision) (set : Prices) : Type 0 where
  pub fits : FitsBranch p pool (branch ++ decision ∷ []) set
  pub no_lower : value_of (rules_of p pool branch) set ≤ℤ value_of (rules_of p pool (branch ++ decision ∷ [])) set

abbrev pub DecisionsKeepSets : Type 0
DecisionsKeepSets = (p : Problem) (pool : List (List ℕ)) (branch : List Decision) (decision : Decision) (set : Prices) →
    IsOpenDecision p branch decision → FitsBranch p pool branch set → IsKept p pool branch decision set

-- such a decision leaves each excluded pair excluded
abbrev pub DecisionsKeepExclusions : Type 0
DecisionsKeepExclusions = (p : Problem) (branch : List Decision) (decision : Decision) → IsOpenDecision p branch decision →
    (a b : ℕ) → Excluded p branch a b → Excluded p (branch ++ decision ∷ []) a b

-- if no chain is above the capacity, none is so after such a decision
abbrev pub DecisionsKeepChainsLight : Type 0
DecisionsKeepChainsLight = (p : Problem) (branch : List Decision) (decision : Decision) → IsOpenDecision p branch decision →
    ((c : ℕ) → ¬ (IsHeavy p branch c c)) → (c : ℕ) → ¬ (IsHeavy p (branch ++ decision ∷ []) c c)
