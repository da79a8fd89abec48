-- Branches of a search over packings: pairs of required edges that share a group or do not, and the bundles that they make
-- (Ryan and Foster 1981; the bounds at the leaves are those of Martello and Toth 1990, section 8.3).
use Rattle.std.specs.Prelude.{◌≡◌, ◌≢◌, ℕ, ◌+◌, ◌-◌, ◌*◌, ◌<◌, ◌≤◌, ◌==◌, ◌&&◌, ◌⊎◌, Bool, List, [], ◌∷◌, if◌then◌else◌, max, min, nat_lt, nat_le, slice_index, length}
use Rattle.std.specs.List.{All, Contains}
use Rattle.std.specs.Int.{div_ceil}
use Rattle.carp_base.specs.Problem.{Problem, IsRequired, edge_at}
use Rattle.carp_base.specs.Packings.{group_of}
use Rattle.plan_model.specs.Sums.{sum_to}
use Rattle.packing_trees.specs.declared.node.PackChoice.{PackChoice}
use Rattle.packing_trees.specs.declared.node.PackChoice.TheVariants.{Together, Apart}

-- the choice is on two different required edges, the lesser one first
abbrev pub IsPair : Problem → ℕ → ℕ → Type 0
IsPair p a b = (1 ≤ a) × (a < b) × (b ≤ p.required)

abbrev pub IsChoice : Problem → PackChoice → Type 0
IsChoice p (Together a b) = IsPair p a b
IsChoice p (Apart a b) = IsPair p a b

-- the groups meet a choice: its edges lie in one group, or in two
abbrev pub MeetsChoice : List ℕ → PackChoice → Type 0
MeetsChoice groups (Together a b) = group_of groups a ≡ group_of groups b
MeetsChoice groups (Apart a b) = group_of groups a ≢ group_of groups b

-- the groups meet each choice of a branch
abbrev pub MeetsBranch : List ℕ → List PackChoice → Type 0
MeetsBranch groups branch = All (MeetsChoice groups) branch

-- two edges that a together choice names, in either order
abbrev pub IsTied : List PackChoice → ℕ → ℕ → Type 0
IsTied branch a b = Contains branch (Together a b) ⊎ Contains branch (Together b a)

-- together choices lead from one edge to another, by way of these
abbrev pub TiesLead : List PackChoice → ℕ → List ℕ → ℕ → Type 0
TiesLead branch a [] b = a ≡ b
TiesLead branch a (c ∷ way) b = IsTied branch a c × TiesLead branch c way b

-- the edges lie in one bundle
pub record AreBundled (branch : List PackChoice) (a b : ℕ) : Type 0 where
  pub way : List ℕ
  pub leads : TiesLead branch a way b

-- the number of an edge's bundle after one more pair was put together, where `before` has the numbers up to then: the number of a
-- bundle is its least edge
abbrev pub joined : (before : ℕ → ℕ) → (a b : ℕ) → ℕ → ℕ
joined before a b e = if before e == max (before a) (before b) then min (before a) (before b) else before e

-- the numbers of the bundles after more choices
abbrev pub bundles_after : (ℕ → ℕ) → List PackChoice → ℕ → ℕ
bundles_after before [] = before
bundles_after before (Together a b ∷ more) = bundles_after (joined before a b) more
bundles_after before (Apart a b ∷ more) = bundles_after before more

-- the number of the bundle that an edge lies in: the least edge of the bundle. At first each edge is a bundle of its own
abbrev pub bundle_of : List PackChoice → ℕ → ℕ
bundle_of branch = bundles_after (λ e. e) branch

-- the demand of the bundle of a number; 0 where there is no bundle of that number
abbrev pub bundle_weight : Problem → List PackChoice → ℕ → ℕ
bundle_weight p branch bundle = sum_to p.required (λ e. if bundle_of branch e == bundle then (edge_at p e).demand else 0)

-- the sum of a number over all bundles, which is read off their weights
abbrev pub over_bundles : Problem → List PackChoice → (ℕ → ℕ) → ℕ
over_bundles p branch number =
    sum_to p.required (λ e. if bundle_of branch e == e then number (bundle_weight p branch e) else 0)

-- how many bundles there are
abbrev pub bundle_count : Problem → List PackChoice → ℕ
bundle_count p branch = over_bundles p branch (λ w. 1)

-- an apart choice stands between the bundles of two edges
pub record AreParted (branch : List PackChoice) (a b : ℕ) : Type 0 where
  pub c : ℕ
  pub d : ℕ
  pub apart : Contains branch (Apart c d)
  pub between : ((bundle_of branch c ≡ bundle_of branch a) × (bundle_of branch d ≡ bundle_of branch b))
      ⊎ ((bundle_of branch c ≡ bundle_of branch b) × (bundle_of branch d ≡ bundle_of branch a))

-- a pair is closed: its edges lie in one bundle, or in two that are parted or are too heavy together
abbrev pub IsClosedPair : Problem → List PackChoice → ℕ → ℕ → Type 0
IsClosedPair p branch a b =
    (bundle_of branch a ≡ bundle_of branch b)
    ⊎ (AreParted branch a b ⊎ (p.capacity < bundle_weight p branch (bundle_of branch a) + bundle_weight p branch (bundle_of branch b)))

-- each pair is closed: no two bundles can share a group
abbrev pub AreAllClosed : Problem → List PackChoice → Type 0
AreAllClosed p branch = (a b : ℕ) → IsPair p a b → IsClosedPair p branch a b

-- The bound of a share of size s (Martello and Toth 1990, section 8.3). Bundles above Q - s are each alone in a group, but for lighter ones than s;
-- of the others above half of Q no two share a group; and those from s to half of Q have to go where these leave room.
abbrev pub alone_count : Problem → List PackChoice → ℕ → ℕ
alone_count p branch s = over_bundles p branch (λ w. if nat_lt (p.capacity - s) w then 1 else 0)

abbrev pub is_large : ℕ → ℕ → ℕ → Bool
is_large capacity s w = nat_le w (capacity - s) && nat_lt capacity (2 * w)

abbrev pub large_count : Problem → List PackChoice → ℕ → ℕ
large_count p branch s = over_bundles p branch (λ w. if is_large p.capacity s w then 1 else 0)

abbrev pub large_weight : Problem → List PackChoice → ℕ → ℕ
large_weight p branch s = over_bundles p branch (λ w. if is_large p.capacity s w then w else 0)

abbrev pub middle_weight : Problem → List PackChoice → ℕ → ℕ
middle_weight p branch s = over_bundles p branch (λ w. if nat_le (2 * w) p.capacity && nat_le s w then w else 0)

-- so many groups at least
abbrev pub share_value : Problem → List PackChoice → ℕ → ℕ
share_value p branch s =
    alone_count p branch s + large_count p branch s
    + div_ceil (middle_weight p branch s - (large_count p branch s * p.capacity - large_weight p branch s)) p.capacity

-- the number and the weight of the bundle of each required edge, at the places of the edges' numbers; place 0 is of no edge, and weighs nothing
pub record AreBundles (p : Problem) (branch : List PackChoice) (labels weights : List ℕ) : Type 0 where
  pub label_each : length labels ≡ p.required + 1
  pub weight_each : length weights ≡ p.required + 1
  pub labelled : (e : ℕ) → IsRequired p e → slice_index labels e ≡ bundle_of branch e
  pub weighed : (e : ℕ) → IsRequired p e → slice_index weights e ≡ bundle_weight p branch e
  pub none_at_0 : slice_index weights 0 ≡ 0

-- the lists are of the bundles of some branch of choices on required edges
pub record HasBundles (p : Problem) (labels weights : List ℕ) : Type 0 where
  pub branch : List PackChoice
  pub choices : All (IsChoice p) branch
  pub are : AreBundles p branch labels weights
