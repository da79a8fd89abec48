-- Why a node of a tree is not as it should be, and the first such node.
use Rattle.std.specs.Prelude.{◌≡◌, ℕ, ◌+◌, ◌-◌, ◌<◌, ℤ, pos, ◌+ℤ◌, ◌-ℤ◌, ◌*ℤ◌, ◌≤ℤ◌, ◌<ℤ◌, ◌⊎◌, List, [], ◌∷◌, map}
use Rattle.std.specs.List.{All}
use Rattle.carp_base.specs.declared.edge.Task.{Task}
use Rattle.deadhead_paths.specs.Prices.{price_of}
use Rattle.deadhead_paths.specs.Tours.{IsTaskTour, LeastDeadhead}
use Rattle.decision_chains.specs.declared.decision.Decision.{Decision}
use Rattle.decision_chains.specs.Exclusions.{Excluded, IsDetermined}
use Rattle.decision_chains.specs.FixedValue.{HasFixedValue}
use Rattle.branch_rules.specs.declared.node.Node.{Node}
use Rattle.branch_rules.specs.declared.node.Node.TheVariants as nodes
use Rattle.branch_rules.specs.Bonds.{bond_weight}
use Rattle.branch_rules.specs.Prices.{Prices, PaysAtLeast, task_adds, crossing_prices, signed_sum, value_of}
use Rattle.branch_rules.specs.Decisions.{rules_of, cuts_of, IsVoid, IsFixed}
use Rattle.decision_chains.specs.Pairs.{IsPairWithin}
use Rattle.branch_rules.specs.Refusals.{HasUpper, HasYes, IsWithoutUpper, IsWithoutYes}
use Rattle.branch_rules.specs.Waiting.{waiting_after}
use Rattle.branch_rules.specs.Trees.{Support, set_at, IsLeanNode, PriceShows, FixedShows}
use Rattle.cert_checker.specs.declared.reason.Part.TheVariants as parts
use Rattle.cert_checker.specs.declared.reason.Reason.{Reason}
use Rattle.cert_checker.specs.declared.reason.Reason.TheVariants.{Misfit, NotLean, NotVoid, NotFixed, MissingUpper, MissingYes, TourTooCheap, LeafLow}

-- with the prices of a set, a relaxed tour has this value: what its services add, its deadhead, and what its bonds weigh
pub record HasValue (s : Support) (branch : List Decision) (set : Prices) (tasks : List Task) (value : ℤ) : Type 0 where
  pub deadhead : ℕ
  pub tour : IsTaskTour s.problem (λ a b. ¬ (Excluded s.problem branch a b)) tasks
  pub deadheads : LeastDeadhead s.problem (price_of (crossing_prices s.problem s.pool set)) s.problem.depot tasks s.problem.depot deadhead
  pub sum : value ≡ signed_sum (λ t. task_adds s.problem set t.edge) tasks +ℤ (pos deadhead +ℤ bond_weight set.groups (map (λ t. t.edge) tasks))

-- the least value of a relaxed tour
pub record IsLeastTour (s : Support) (branch : List Decision) (set : Prices) (value : ℤ) : Type 0 where
  pub tasks : List Task
  pub attained : HasValue s branch set tasks value
  pub least : (other : List Task) (v : ℤ) → HasValue s branch set other v → value ≤ℤ v

-- each relaxed tour pays for its services
abbrev pub ToursPay : Support → List Decision → Prices → Type 0
ToursPay s branch set = PaysAtLeast s.problem (λ a b. ¬ (Excluded s.problem branch a b)) (task_adds s.problem set) (price_of (crossing_prices s.problem s.pool set)) set.groups

-- the denominator times one less than the bound
abbrev pub limit_of : ℕ → ℕ → ℤ
limit_of unit bound = pos unit *ℤ (pos bound -ℤ pos 1)

-- the value of a fixed leaf is below the bound
pub record IsFixedLow (s : Support) (bound : ℕ) (branch : List Decision) (value limit : ℤ) : Type 0 where
  pub settled : IsFixed s.problem s.pool branch
  pub cost : ℕ
  pub fixed : HasFixedValue s.problem branch cost
  pub is_value : value ≡ pos cost
  pub is_limit : limit ≡ limit_of 1 bound
  pub low : cost < bound

-- each shore of a negative weight has an upper number, and the set has a negative weight on a pair to which the branch does not say yes;
-- this is the pair of the first such weight
pub record IsPairMissing (branch : List Decision) (set : Prices) (a b : ℕ) : Type 0 where
  pub has_upper : All (HasUpper branch) set.weights
  pub lacks : IsWithoutYes branch set (record { a = a; b = b })

-- each shore of a negative weight has an upper number, and the branch says yes to each pair of a negative weight
pub record HasWhatItNeeds (branch : List Decision) (set : Prices) : Type 0 where
  pub has_upper : All (HasUpper branch) set.weights
  pub has_yes : All (HasYes branch) set.groups

-- a relaxed tour of a price leaf costs less than it earns, and this is the least value
pub record IsTourTooCheap (s : Support) (branch : List Decision) (set : Prices) (value : ℤ) : Type 0 where
  pub needs : HasWhatItNeeds branch set
  pub least : IsLeastTour s branch set value
  pub negative : value <ℤ pos 0

-- the set of a price leaf fits and does not show the bound: its value is not above the limit
pub record IsPriceLow (s : Support) (bound : ℕ) (branch : List Decision) (set : Prices) (value limit : ℤ) : Type 0 where
  pub needs : HasWhatItNeeds branch set
  pub pays : ToursPay s branch set
  pub is_value : value ≡ value_of (rules_of s.problem s.pool branch) set
  pub is_limit : limit ≡ limit_of set.unit bound
  pub low : value ≤ℤ limit

-- a node of this number fails under its branch, for the first reason of those of its kind
abbrev pub NodeFails : Support → (bound at : ℕ) → List Decision → Node → Reason → Type 0
NodeFails s bound at branch (nodes.Pair a b) (Misfit (parts.Node n)) = (n ≡ at) × ¬ (IsPairWithin s.problem.required a b)
NodeFails s bound at branch (nodes.Pair a b) (NotLean n) = (n ≡ at) × IsPairWithin s.problem.required a b × IsDetermined s.problem branch a b
NodeFails s bound at branch (nodes.Cut border k) (NotLean n) = (n ≡ at) × ¬ (IsLeanNode s.problem s.pool branch (4 - cuts_of branch) (nodes.Cut border k))
NodeFails s bound at branch nodes.Void (NotVoid n) = (n ≡ at) × ¬ (IsVoid s.problem s.pool branch)
NodeFails s bound at branch nodes.Fixed (NotFixed n) = (n ≡ at) × ¬ (IsFixed s.problem s.pool branch)
NodeFails s bound at branch nodes.Fixed (LeafLow n value limit) = (n ≡ at) × IsFixedLow s bound branch value limit
NodeFails s bound at branch (nodes.Price set) (MissingUpper number n border) =
    (n ≡ at) × (number ≡ set) × IsWithoutUpper branch (set_at s set) (record { shore = border })
NodeFails s bound at branch (nodes.Price set) (MissingYes number n a b) = (n ≡ at) × (number ≡ set) × IsPairMissing branch (set_at s set) a b
NodeFails s bound at branch (nodes.Price set) (TourTooCheap number n value) = (n ≡ at) × (number ≡ set) × IsTourTooCheap s branch (set_at s set) value
NodeFails s bound at branch (nodes.Price set) (LeafLow n value limit) = (n ≡ at) × IsPriceLow s bound branch (set_at s set) value limit
NodeFails s bound at branch node reason = ⊥

-- a node is as it should be under its branch: an inner node is lean, and its pair of required edges; a leaf shows the bound
abbrev pub NodeStands : Support → (bound : ℕ) → List Decision → Node → Type 0
NodeStands s bound branch (nodes.Pair a b) = IsPairWithin s.problem.required a b × ¬ (IsDetermined s.problem branch a b)
NodeStands s bound branch (nodes.Cut border k) = IsLeanNode s.problem s.pool branch (4 - cuts_of branch) (nodes.Cut border k)
NodeStands s bound branch (nodes.Price set) = PriceShows s branch bound set
NodeStands s bound branch nodes.Void = IsVoid s.problem s.pool branch
NodeStands s bound branch nodes.Fixed = FixedShows s branch bound

-- each node is as it should be under the branch that waits for it, and no node lacks a branch
abbrev pub NodesStand : Support → (bound : ℕ) → List Node → List (List Decision) → Type 0
NodesStand s bound [] waiting = Unit {0}
NodesStand s bound (node ∷ rest) [] = ⊥
NodesStand s bound (node ∷ rest) (branch ∷ waiting) = NodeStands s bound branch node × NodesStand s bound rest (waiting_after branch node waiting)

-- the first node that fails has this reason; the first node of the list has this number
abbrev pub FirstNodeFails : Support → (bound at : ℕ) → List Node → List (List Decision) → Reason → Type 0
FirstNodeFails s bound at [] waiting reason = ⊥
FirstNodeFails s bound at (node ∷ rest) [] reason = ⊥
FirstNodeFails s bound at (node ∷ rest) (branch ∷ waiting) reason =
    NodeFails s bound at branch node reason
    ⊎ (NodeStands s bound branch node × FirstNodeFails s bound (at + 1) rest (waiting_after branch node waiting) reason)
