-- What the nodes of a tree show, one after another. No public contract speaks of this.
use Rattle.std.specs.Prelude.{◌≡◌, ℕ, ◌^◌, ◌≤◌, ◌<◌, ◌↔◌, List, [], ◌∷◌, drop}
use Rattle.carp_base.specs.Problem.{Problem}
use Rattle.deadhead_paths.specs.Prices.{costs_of}
use Rattle.decision_chains.specs.declared.decision.Decision.{Decision}
use Rattle.decision_chains.specs.FixedValue.{HasFixedValue}
use Rattle.branch_rules.specs.Decisions.{IsVoid}
use Rattle.branch_rules.specs.Trees.{Support, NodesShow, PriceShows, FixedShows}
use Rattle.branch_rules.specs.declared.node.Node.{Node}
use Rattle.branch_rules.specs.declared.node.Node.TheVariants as nodes
use Rattle.tree_transfer.specs.Carried.{FixedWouldShow}
use Rattle.branch_rules.specs.Paths.{IsPath, IsPathIn, waits}
use Rattle.branch_rules.specs.Waiting.{waiting_after}
use Rattle.branch_rules.specs.declared.path.Path.{Path}
use Rattle.tree_transfer.specs.Shown.{HasShores}
use Rattle.tree_transfer.specs.declared.bounding.Given.{Given}

abbrev pub support_in : Given → Support
support_in given = record { problem = given.inst.now; pool = given.pool.now; sets = given.sets.now }

-- the distances are those by cost, and the sets have their shores
pub record IsGiven (given : Given) : Type 0 where
  pub problem : given.dist.now.problem ≡ given.inst.now
  pub prices : given.dist.now.prices ≡ costs_of given.inst.now
  pub shores : HasShores (support_in given)

-- a leaf shows the bound under the decisions on the way to it, if a fixed branch has a value
abbrev pub NodeWouldShow : Support → (bound : ℕ) → List Decision → Node → Type 0
NodeWouldShow c bound branch (nodes.Pair a b) = Unit {0}
NodeWouldShow c bound branch (nodes.Cut shore k) = Unit {0}
NodeWouldShow c bound branch (nodes.Price set) = PriceShows c branch bound set
NodeWouldShow c bound branch nodes.Void = IsVoid c.problem c.pool branch
NodeWouldShow c bound branch nodes.Fixed = FixedWouldShow c branch bound

-- a fixed branch has a value
abbrev pub HasSomeValue : Problem → List Decision → Type 0
HasSomeValue p branch = (value : ℕ) × HasFixedValue p branch value

-- a fixed leaf has a value
abbrev pub NodeHasValue : Problem → List Decision → Node → Type 0
NodeHasValue p branch (nodes.Pair a b) = Unit {0}
NodeHasValue p branch (nodes.Cut shore k) = Unit {0}
NodeHasValue p branch (nodes.Price set) = Unit {0}
NodeHasValue p branch nodes.Void = Unit {0}
NodeHasValue p branch nodes.Fixed = HasSomeValue p branch

-- each node would show the bound under the branch that waits for it, and the branches are as many as the nodes ask for
abbrev pub NodesWouldShow : Support → (bound : ℕ) → List Node → List (List Decision) → Type 0
NodesWouldShow c bound [] [] = Unit {0}
NodesWouldShow c bound [] (branch ∷ waiting) = ⊥
NodesWouldShow c bound (node ∷ rest) [] = ⊥
NodesWouldShow c bound (node ∷ rest) (branch ∷ waiting) = NodeWouldShow c bound branch node × NodesWouldShow c bound rest (waiting_after branch node waiting)

-- each fixed leaf has a value under the branch that waits for it
abbrev pub NodesHaveValues : Problem → List Node → List (List Decision) → Type 0
NodesHaveValues p [] waiting = Unit {0}
NodesHaveValues p (node ∷ rest) [] = ⊥
NodesHaveValues p (node ∷ rest) (branch ∷ waiting) = NodeHasValue p branch node × NodesHaveValues p rest (waiting_after branch node waiting)

-- a leaf would show some bound
abbrev pub NodeWouldShowSome : Support → List Decision → Node → Type 0
NodeWouldShowSome c branch node = (bound : ℕ) × NodeWouldShow c bound branch node

-- a price leaf shows some bound
abbrev pub PriceShowsSome : Support → List Decision → (set : ℕ) → Type 0
PriceShowsSome c branch set = (bound : ℕ) × PriceShows c branch bound set

-- a price leaf, or a fixed one, shows each bound up to this number, and no greater one; bounds are below 10^18
abbrev pub PriceShowsUpTo : Support → List Decision → (set most : ℕ) → Type 0
PriceShowsUpTo c branch set most = (bound : ℕ) → bound < 10 ^ 18 → PriceShows c branch bound set ↔ (bound ≤ most)

abbrev pub FixedShowsUpTo : Support → List Decision → (most : ℕ) → Type 0
FixedShowsUpTo c branch most = (bound : ℕ) → bound < 10 ^ 18 → FixedShows c branch bound ↔ (bound ≤ most)

-- of the nodes before a place, this is the least of the greatest bounds; the nodes from there on would show some bound under the
-- branches that wait
pub record IsBounding (c : Support) (all : List Node) (place : ℕ) (waiting : List (List Decision)) (least : ℕ) : Type 0 where
  pub shown : (bound : ℕ) → bound < 10 ^ 18 → NodesShow c bound all ([] ∷ []) ↔ ((bound ≤ least) × NodesShow c bound (drop place all) waiting)
  pub some : (bound : ℕ) × NodesWouldShow c bound (drop place all) waiting
  pub values : NodesHaveValues c.problem (drop place all) waiting → NodesHaveValues c.problem all ([] ∷ [])

-- the same, with the path to the place
pub record BoundsAt (c : Support) (all : List Node) (place : ℕ) (path : Path) (least : ℕ) : Type 0 where
  pub is_path : IsPath path
  pub path_in : IsPathIn c path
  pub bounding : IsBounding c all place (waits path) least

-- the least of the greatest bounds that the nodes show; each fixed one has a value
pub record IsLeastShown (c : Support) (all : List Node) (least : ℕ) : Type 0 where
  pub shown : (bound : ℕ) → bound < 10 ^ 18 → NodesShow c bound all ([] ∷ []) ↔ (bound ≤ least)
  pub values : NodesHaveValues c.problem all ([] ∷ [])
