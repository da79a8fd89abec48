-- How the numbers and the weights of bundles are kept in lists, and what is read from them. No public contract speaks of this.
use Rattle.std.specs.Prelude.{◌≡◌, ℕ, ◌+◌, ◌-◌, ◌*◌, ◌<◌, ◌≤◌, ◌==◌, ◌&&◌, ◌⊎◌, ◌↔◌, List, if◌then◌else◌, nat_lt, nat_le, slice_index, length}
use Rattle.std.specs.List.{Contains}
use Rattle.std.specs.Int.{div_ceil}
use Rattle.carp_base.specs.Problem.{Problem, edge_at}
use Rattle.plan_model.specs.Sums.{sum_to}
use Rattle.packing_trees.specs.declared.node.PackChoice.{PackChoice}
use Rattle.packing_trees.specs.declared.node.PackChoice.TheVariants.{Together, Apart}
use Rattle.packing_trees.specs.declared.shares.Shares.{Shares}
use Rattle.packing_trees.specs.Bundles.{bundle_of, is_large}

-- a label, after one was given up for another
abbrev pub merged : (to from : ℕ) → ℕ → ℕ
merged to from l = if l == from then to else l

pub record AreMerged (to from : ℕ) (old new : List ℕ) : Type 0 where
  pub long : length new ≡ length old
  pub each : (e : ℕ) → e < length old → slice_index new e ≡ merged to from (slice_index old e)

-- the choice is on two numbers from 1 and below this one, the lesser one first
abbrev pub IsBelow : ℕ → PackChoice → Type 0
IsBelow n (Together a b) = (1 ≤ a) × (a < b) × (b < n)
IsBelow n (Apart a b) = (1 ≤ a) × (a < b) × (b < n)

-- at the place of each number, its bundle's number
abbrev pub AreLabels : List PackChoice → List ℕ → Type 0
AreLabels branch labels = (e : ℕ) → e < length labels → slice_index labels e ≡ bundle_of branch e

-- the demand of the edges from 1 to n that have a label
abbrev pub weight_to : Problem → List ℕ → ℕ → ℕ → ℕ
weight_to p labels n l = sum_to n (λ e. if slice_index labels e == l then (edge_at p e).demand else 0)

-- so many bundles that the table stays small: places, and weights
pub record IsSmallTable (labels weights : List ℕ) : Type 0 where
  pub some : 1 ≤ length labels
  pub few : length labels ≤ 601
  pub same : length weights ≡ length labels
  pub small : (e : ℕ) → 1 ≤ e → e < length labels → slice_index weights e ≤ 18000000

-- the sum of a number over the bundles from 1 to n, which is read off the weights
abbrev pub over_labels : List ℕ → List ℕ → ℕ → (ℕ → ℕ) → ℕ
over_labels labels weights n number = sum_to n (λ e. if slice_index labels e == e then number (slice_index weights e) else 0)

-- what the bundles from 1 to n add to the bound of a share of size s
pub record AreShares (capacity s : ℕ) (labels weights : List ℕ) (n : ℕ) (shares : Shares) : Type 0 where
  pub alone : shares.alone ≡ over_labels labels weights n (λ w. if nat_lt (capacity - s) w then 1 else 0)
  pub large : shares.large ≡ over_labels labels weights n (λ w. if is_large capacity s w then 1 else 0)
  pub large_weight : shares.large_weight ≡ over_labels labels weights n (λ w. if is_large capacity s w then w else 0)
  pub middle_weight : shares.middle_weight ≡ over_labels labels weights n (λ w. if nat_le (2 * w) capacity && nat_le s w then w else 0)

-- no more than n bundles, all of them light, add
pub record AreSmallShares (n : ℕ) (shares : Shares) : Type 0 where
  pub alone : shares.alone ≤ n
  pub large : shares.large ≤ n
  pub large_weight : shares.large_weight ≤ 18000000 * n
  pub middle_weight : shares.middle_weight ≤ 18000000 * n

-- one bundle of weight w more
pub record AddsBundle (capacity s w : ℕ) (old new : Shares) : Type 0 where
  pub alone : new.alone ≡ old.alone + (if nat_lt (capacity - s) w then 1 else 0)
  pub large : new.large ≡ old.large + (if is_large capacity s w then 1 else 0)
  pub large_weight : new.large_weight ≡ old.large_weight + (if is_large capacity s w then w else 0)
  pub middle_weight : new.middle_weight ≡ old.middle_weight + (if nat_le (2 * w) capacity && nat_le s w then w else 0)

-- the groups that the bundles of a share take at least
abbrev pub value_of : ℕ → Shares → ℕ
value_of capacity shares = shares.alone + shares.large + div_ceil (shares.middle_weight - (shares.large * capacity - shares.large_weight)) capacity

-- an apart choice stands between two labels
abbrev pub PartsLabels : List ℕ → PackChoice → ℕ → ℕ → Type 0
PartsLabels labels (Together c d) one other = ⊥
PartsLabels labels (Apart c d) one other =
    ((slice_index labels c ≡ one) × (slice_index labels d ≡ other)) ⊎ ((slice_index labels c ≡ other) × (slice_index labels d ≡ one))

pub record SomePartsLabels (labels : List ℕ) (branch : List PackChoice) (one other : ℕ) : Type 0 where
  pub choice : PackChoice
  pub stands : Contains branch choice
  pub parts : PartsLabels labels choice one other

-- two labels cannot share a group: they are too heavy together, or an apart choice stands between them
abbrev pub AreRefused : (capacity : ℕ) (labels weights : List ℕ) → List PackChoice → ℕ → ℕ → Type 0
AreRefused capacity labels weights branch one other = (capacity < slice_index weights one + slice_index weights other) ⊎ SomePartsLabels labels branch one other

-- a bundle can share a group with none of a greater number
abbrev pub RowIsClosed : (capacity : ℕ) (labels weights : List ℕ) → List PackChoice → ℕ → Type 0
RowIsClosed capacity labels weights branch one =
    (other : ℕ) → one < other → other < length labels → slice_index labels other ≡ other → AreRefused capacity labels weights branch one other

-- no two bundles can
abbrev pub RowsAreClosed : (capacity : ℕ) (labels weights : List ℕ) → List PackChoice → Type 0
RowsAreClosed capacity labels weights branch =
    (one : ℕ) → 1 ≤ one → one < length labels → slice_index labels one ≡ one → RowIsClosed capacity labels weights branch one

-- a bundle is too heavy beside each of a greater number
abbrev pub RowIsHeavy : (capacity : ℕ) (labels weights : List ℕ) → ℕ → Type 0
RowIsHeavy capacity labels weights one =
    (other : ℕ) → one < other → other < length labels → slice_index labels other ≡ other → capacity < slice_index weights one + slice_index weights other

-- a bundle is too heavy beside each of a greater number that has no mark
abbrev pub RowIsMarked : (capacity : ℕ) (labels weights marks : List ℕ) → ℕ → Type 0
RowIsMarked capacity labels weights marks one =
    (other : ℕ) → one < other → other < length labels → slice_index labels other ≡ other →
    (capacity < slice_index weights one + slice_index weights other) ⊎ (slice_index marks other ≡ one)

-- the labels that an apart choice parts from one have its mark too
abbrev pub Marks : (labels : List ℕ) → PackChoice → (one : ℕ) (old new : List ℕ) → Type 0
Marks labels choice one old new = (k : ℕ) → k < length labels → (slice_index new k ≡ one) ↔ ((slice_index old k ≡ one) ⊎ PartsLabels labels choice one k)
