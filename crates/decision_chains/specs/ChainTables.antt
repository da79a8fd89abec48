-- How the yes neighbours of each edge and the chains are kept. Public contracts speak only of `IsChainTable` and `IsTangled`.
use Rattle.std.specs.Prelude.{◌≡◌, ◌≢◌, ℕ, zero, suc, ◌+◌, ◌-◌, ◌<◌, ◌≤◌, ◌↔◌, ◌==◌, ◌⊎◌, ◌||◌, ◌&&◌, not, Bool, true, false, Option, Some, None, List, length, slice_index_or, nat_lt, if◌then◌else◌, IsTrue}
use Rattle.std.specs.List.{All, list_any}
use Rattle.carp_base.specs.Allowed.{Relation, allows}
use Rattle.carp_base.specs.Problem.{Problem, IsRequired, edge_at}
use Rattle.plan_model.specs.Sums.{sum_to}
use Rattle.decision_chains.specs.Exclusions.{says_yes, IsYes, AreJoined, HasTwoOthers, Detour, Excluded}
use Rattle.decision_chains.specs.declared.decision.Decision.{Decision}
use Rattle.decision_chains.specs.declared.decision.Decision.TheVariants.{Yes, No, Low, High}
use Rattle.decision_chains.specs.Pairs.{ArePairsIn}
use Rattle.decision_chains.specs.declared.chains.Chains.{Chains}
use Rattle.decision_chains.specs.declared.near.Near.{Near}
use Rattle.decision_chains.specs.declared.near.Near.TheVariants.{Free, One, Two, Many}

-- the test of the yes neighbours of an edge
abbrev pub yes_of : List Decision → ℕ → ℕ → Bool
yes_of branch e z = list_any (says_yes e z) branch

-- the only neighbour
pub record IsOnly (is_near : ℕ → Bool) (x : ℕ) : Type 0 where
  pub near : IsTrue (is_near x)
  pub only : (z : ℕ) → IsTrue (is_near z) → z ≡ x

-- the only two neighbours
pub record AreOnly (is_near : ℕ → Bool) (x y : ℕ) : Type 0 where
  pub x_near : IsTrue (is_near x)
  pub y_near : IsTrue (is_near y)
  pub apart : x ≢ y
  pub only : (z : ℕ) → IsTrue (is_near z) → (z ≡ x) ⊎ (z ≡ y)

-- three neighbours or more
pub record HasThree (is_near : ℕ → Bool) : Type 0 where
  pub x : ℕ
  pub y : ℕ
  pub z : ℕ
  pub x_near : IsTrue (is_near x)
  pub y_near : IsTrue (is_near y)
  pub z_near : IsTrue (is_near z)
  pub x_y : x ≢ y
  pub x_z : x ≢ z
  pub y_z : y ≢ z

-- what is kept of the neighbours: all of them, or that they are three or more
abbrev pub AreNear : (ℕ → Bool) → Near → Type 0
AreNear is_near Free = (z : ℕ) → is_near z ≡ false
AreNear is_near (One x) = IsOnly is_near x
AreNear is_near (Two x y) = AreOnly is_near x y
AreNear is_near Many = HasThree is_near

-- one neighbour more, which may have been one before
pub record AddsNear (old new : ℕ → Bool) (x : ℕ) : Type 0 where
  pub kept : (z : ℕ) → IsTrue (old z) → IsTrue (new z)
  pub added : IsTrue (new x)
  pub only : (z : ℕ) → IsTrue (new z) → IsTrue (old z) ⊎ (z ≡ x)

-- the label of an edge, and what is kept of its neighbours; a number of no edge is its own label, and has no neighbours
abbrev pub label_at : List ℕ → ℕ → ℕ
label_at labels zero = zero
label_at labels (suc k) = slice_index_or labels k (suc k)

abbrev pub near_at : List Near → ℕ → Near
near_at near zero = Free
near_at near (suc k) = slice_index_or near k Free

-- two edges have one label exactly if they are of one chain
abbrev pub IsLabelled : List Decision → (ℕ → ℕ) → Type 0
IsLabelled branch label = (a b : ℕ) → (label a ≡ label b) ↔ AreJoined branch a b

-- an edge has three yes neighbours or more, or yes pairs form a cycle
pub data IsTangled (branch : List Decision) : Type 0 where
  crowded : (a b : ℕ) → IsYes branch a b → HasTwoOthers branch a b → IsTangled branch
  cyclic : (a b : ℕ) (path : List ℕ) → a ≢ b → IsYes branch a b → Detour branch a b a path b → IsTangled branch

-- the number of one of so many edges
pub record IsUpTo (m e : ℕ) : Type 0 where
  pub from_one : 1 ≤ e
  pub in_range : e ≤ m

-- labels and neighbours of so many edges, under the decisions so far
pub record AreChains (m : ℕ) (branch : List Decision) (labels : List ℕ) (near : List Near) (tangled : Bool) : Type 0 where
  pub labels_long : length labels ≡ m
  pub near_long : length near ≡ m
  pub within : All (IsUpTo m) labels
  pub labelled : IsLabelled branch (label_at labels)
  pub neighbours : (e : ℕ) → AreNear (yes_of branch e) (near_at near e)
  pub tangle : IsTrue tangled ↔ IsTangled branch

-- the label that a label becomes, if one label is given up for another
abbrev pub merged : ℕ → ℕ → ℕ → ℕ
merged of_x of_y l = if l == of_y then of_x else l

-- each label has become another
abbrev pub AreMerged : ℕ → ℕ → List ℕ → List ℕ → Type 0
AreMerged of_x of_y old new = (length new ≡ length old) × ((k d : ℕ) → k < length old → slice_index_or new k d ≡ merged of_x of_y (slice_index_or old k d))

-- with one neighbour more, which may be there already
abbrev pub near_with : Near → ℕ → Near
near_with Free b = One b
near_with (One x) b = if x == b then One x else Two x b
near_with (Two x y) b = if (x == b) || (y == b) then Two x y else Many
near_with Many b = Many

-- the edge is among those that are kept
abbrev pub near_has : Near → ℕ → Bool
near_has Free b = false
near_has (One x) b = x == b
near_has (Two x y) b = (x == b) || (y == b)
near_has Many b = false

-- there are two neighbours besides the edge
abbrev pub has_two_besides : Near → ℕ → Bool
has_two_besides Free b = false
has_two_besides (One x) b = false
has_two_besides (Two x y) b = not (x == b) && not (y == b)
has_two_besides Many b = true

-- there is at most one neighbour
abbrev pub is_end : Near → Bool
is_end Free = true
is_end (One x) = true
is_end (Two x y) = false
is_end Many = false

-- there are three neighbours or more
abbrev pub is_many : Near → Bool
is_many Free = false
is_many (One x) = false
is_many (Two x y) = false
is_many Many = true

-- the next yes neighbour of an edge that is reached from another
abbrev pub near_besides : Near → ℕ → Option ℕ
near_besides Free b = None
near_besides (One x) b = if x == b then None else Some x
near_besides (Two x y) b = if x == b then Some y else Some x
near_besides Many b = None

-- the demand of the edges of a label
abbrev pub load_of : Problem → List ℕ → ℕ → ℕ
load_of p labels l = sum_to p.required (λ e. if label_at labels e == l then (edge_at p e).demand else 0)

-- the chain has a label for each edge, and at the place of each label the load of its chain
pub record IsChainTable (t : Chains) : Type 0 where
  pub chains : AreChains t.inst.now.required t.decisions.now t.labels.items t.near.items t.tangled
  pub loads_long : length t.loads.items ≡ t.inst.now.required
  pub loads : (l : ℕ) → IsUpTo t.inst.now.required l → slice_index_or t.loads.items (l - 1) 0 ≡ load_of t.inst.now t.labels.items l
  pub small : (l : ℕ) → IsUpTo t.inst.now.required l → slice_index_or t.loads.items (l - 1) 0 ≤ 18000000
  pub pairs : ArePairsIn t.inst.now t.decisions.now

-- the load of the chain of an edge
abbrev pub chain_load : Chains → ℕ → ℕ
chain_load t e = slice_index_or t.loads.items (label_at t.labels.items e - 1) 0

-- the pair joins the two ends of one chain
abbrev pub closes_chain : Chains → ℕ → ℕ → Bool
closes_chain t a b =
    (label_at t.labels.items a == label_at t.labels.items b) && is_end (near_at t.near.items a) && is_end (near_at t.near.items b)
    && not (near_has (near_at t.near.items a) b)

-- the pair joins two chains that together are above the capacity
abbrev pub overloads : Chains → ℕ → ℕ → Bool
overloads t a b = not (label_at t.labels.items a == label_at t.labels.items b) && nat_lt t.inst.now.capacity (chain_load t a + chain_load t b)

-- the pair is excluded for another reason than that a decision says no to it
abbrev pub is_barred : Chains → ℕ → ℕ → Bool
is_barred t a b =
    (a == b) || has_two_besides (near_at t.near.items a) b || has_two_besides (near_at t.near.items b) a || closes_chain t a b || overloads t a b

-- an edge whose chain is above the capacity by itself
pub record IsOverloaded (t : Chains) (e : ℕ) : Type 0 where
  pub required : IsRequired t.inst.now e
  pub over : t.inst.now.capacity < chain_load t e

-- pairs of required edges are taken out of a relation, and none but excluded ones
pub record TakesExcluded (p : Problem) (branch : List Decision) (old new : Relation) : Type 0 where
  pub on : new.size ≡ old.size
  pub kept : (c d : ℕ) → IsRequired p c → IsRequired p d → allows old c d ≡ false → allows new c d ≡ false
  pub only : (c d : ℕ) → IsRequired p c → IsRequired p d → allows new c d ≡ false → (allows old c d ≡ false) ⊎ Excluded p branch c d

-- the pair is out, in both orders
abbrev pub IsOut : Relation → ℕ → ℕ → Type 0
IsOut r a b = (allows r a b ≡ false) × (allows r b a ≡ false)

-- the pair of a no is out
abbrev pub IsNoOut : Relation → Decision → Type 0
IsNoOut r (Yes a b) = Unit {0}
IsNoOut r (No a b) = IsOut r a b
IsNoOut r (Low shore k) = Unit {0}
IsNoOut r (High shore k) = Unit {0}
