-- A tree that grows: each node with the greatest bound that it shows by itself, and what each of them must meet where it stands.
use Rattle.std.specs.Prelude.{◌≡◌, ℕ, ◌*◌, ◌^◌, ◌<◌, ◌≤◌, ◌↔◌, ℤ, pos, ◌*ℤ◌, ◌≤ℤ◌, List, [], ◌∷◌, length, take, slice_index_or, Bool, ◌==◌, nat_le, count_by}
use Rattle.std.specs.List.{All}
use Rattle.decision_chains.specs.declared.decision.Decision.{Decision}
use Rattle.decision_chains.specs.Pairs.{ArePairsIn}
use Rattle.branch_rules.specs.Decisions.{rules_of}
use Rattle.branch_rules.specs.Limits.{AreShoresIn, IsNodeIn}
use Rattle.branch_rules.specs.Prices.{value_of}
use Rattle.branch_rules.specs.Trees.{Support, set_at}
use Rattle.branch_rules.specs.declared.node.Node.{Node}
use Rattle.branch_rules.specs.declared.node.Node.TheVariants as nodes
use Rattle.grown_trees.specs.Places.{IsFineNode}
use Rattle.grown_trees.specs.Stands.{Stand, IsShownStand, IsLeanStand, IsFitStand}
use Rattle.grown_trees.specs.declared.growing.GrowingNode.{GrowingNode}

-- the nodes of a tree in preorder, and how many of them it has memory for
pub record Growth : Type 0 where
  pub nodes : List GrowingNode
  pub room : ℕ

-- a number of parts of a unit
pub record Fraction : Type 0 where
  pub unit : ℕ
  pub value : ℤ

-- a node by itself shows each bound up to this number, and no greater one; an inner node shows every bound. Bounds are below 10^18
abbrev pub ShowsUpTo : Support → Stand → ℕ → Type 0
ShowsUpTo c s most = (bound : ℕ) → bound < 10 ^ 18 → IsShownStand c bound s ↔ (bound ≤ most)

-- the value of the set that a price leaf names, divided by its denominator, is at least the fraction
abbrev pub NodeReaches : Support → Fraction → List Decision → Node → Type 0
NodeReaches c base branch (nodes.Pair a b) = Unit {0}
NodeReaches c base branch (nodes.Cut shore k) = Unit {0}
NodeReaches c base branch (nodes.Price set) =
    (pos (set_at c set).unit *ℤ base.value) ≤ℤ (pos base.unit *ℤ value_of (rules_of c.problem c.pool branch) (set_at c set))
NodeReaches c base branch nodes.Void = Unit {0}
NodeReaches c base branch nodes.Fixed = Unit {0}

-- a node as a certificate can spell it: the first edge of a pair is below the second, the number of a cut is at most 1,000,000, and a
-- price leaf names one of so many sets
abbrev pub IsSpelledNode : (sets : ℕ) → Node → Type 0
IsSpelledNode sets (nodes.Pair a b) = a < b
IsSpelledNode sets (nodes.Cut shore k) = k ≤ 1000000
IsSpelledNode sets (nodes.Price set) = (1 ≤ set) × (set ≤ sets)
IsSpelledNode sets nodes.Void = Unit {0}
IsSpelledNode sets nodes.Fixed = Unit {0}

-- A node may stand where it stands, in a lean tree of at most four cuts on a path; its pair is of required edges, its shore and those of
-- the decisions on the way to it are in the pool and belong to the instance. If it is a price leaf, its set fits under the decisions, and
-- reaches the fraction. The number beside it is the greatest bound that it shows, which is no less than the fraction.
pub record IsSoundNode (c : Support) (base : Fraction) (s : Stand) (entry : GrowingNode) : Type 0 where
  pub same : entry.node ≡ s.node
  pub pairs : ArePairsIn c.problem s.branch
  pub shores : AreShoresIn c.problem c.pool s.branch
  pub inside : IsNodeIn c.problem c.pool s.node
  pub fine : IsFineNode s.node
  pub spelled : IsSpelledNode (length c.sets) s.node
  pub lean : IsLeanStand c 4 s
  pub fits : IsFitStand c s
  pub reaches : NodeReaches c base s.branch s.node
  pub shows : ShowsUpTo c s entry.shows
  pub enough : base.value ≤ℤ pos (base.unit * entry.shows)

-- so does each node of a list, each with its number
abbrev pub AreSound : Support → Fraction → List Stand → List GrowingNode → Type 0
AreSound c base [] [] = Unit {0}
AreSound c base [] (entry ∷ entries) = ⊥
AreSound c base (s ∷ ss) [] = ⊥
AreSound c base (s ∷ ss) (entry ∷ entries) = IsSoundNode c base s entry × AreSound c base ss entries

-- how many nodes show the cost by themselves: the inner nodes, and the leaves that are closed for the cost
abbrev pub turns_in : (cost : ℕ) → List GrowingNode → ℕ
turns_in cost entries = count_by (λ entry. nat_le cost entry.shows) entries

-- a node whose number is this one
abbrev pub shows_just : ℕ → GrowingNode → Bool
shows_just shows entry = entry.shows == shows

-- the first place of a node that does not show the cost by itself, and whose number is the least of all
pub record IsLeastOpen (cost : ℕ) (entries : List GrowingNode) (place : ℕ) : Type 0 where
  pub inside : place < length entries
  pub not_shown : (other : GrowingNode) → (slice_index_or entries place other).shows < cost
  pub least : (other : GrowingNode) → All (λ entry. (slice_index_or entries place other).shows ≤ entry.shows) entries
  pub first : (other : GrowingNode) → All (λ entry. (slice_index_or entries place other).shows < entry.shows) (take place entries)

-- A node where it stands, and the number beside it, which is the greatest bound that it shows. The decisions on the way to it are on
-- required edges, and on shores that are in the pool and belong to the instance.
pub record IsNotedNode (c : Support) (s : Stand) (entry : GrowingNode) : Type 0 where
  pub same : entry.node ≡ s.node
  pub pairs : ArePairsIn c.problem s.branch
  pub shores : AreShoresIn c.problem c.pool s.branch
  pub shows : ShowsUpTo c s entry.shows

-- so is each node of a list, each with its number
abbrev pub AreNoted : Support → List Stand → List GrowingNode → Type 0
AreNoted c [] [] = Unit {0}
AreNoted c [] (entry ∷ entries) = ⊥
AreNoted c (s ∷ ss) [] = ⊥
AreNoted c (s ∷ ss) (entry ∷ entries) = IsNotedNode c s entry × AreNoted c ss entries
