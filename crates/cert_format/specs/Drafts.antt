-- What is held of the good lines.
use Rattle.std.specs.Prelude.{◌≡◌, ℕ, ◌+◌, ◌*◌, ◌≤◌, ◌==◌, ℤ, List, [], length, Option, Some, IsSome}
use Rattle.std.specs.List.{All}
use Rattle.branch_rules.specs.Limits.{IsPriceNumber}
use Rattle.cert_lines.specs.declared.next.Next.{Next}
use Rattle.cert_lines.specs.declared.next.Next.TheVariants as stands
use Rattle.branch_rules.specs.Prices.{Prices}
use Rattle.cert_lines.specs.Order.{LatestFirst, version_of, next_of}
use Rattle.cert_lines.specs.Certificates.{steps_of, unit_of, services_of, weights_of, sets_of, nodes_of, has_groups}
use Rattle.cert_format.specs.declared.draft.Draft.{Draft}
use Rattle.cert_format.specs.Certs.{IsHeadOf, stated_nodes}

-- how many nodes there are, of those that are stated
abbrev pub CountsNodes : Next → (nodes stated : ℕ) → Type 0
CountsNodes (stands.Node left subtrees) nodes stated = nodes + left ≡ stated
CountsNodes stands.End nodes stated = nodes ≡ stated
CountsNodes stands.Nothing nodes stated = nodes ≡ stated
CountsNodes _ nodes stated = nodes ≡ 0

-- prices that a price set may have
pub record AreFinePrices (unit : ℕ) (services : List ℤ) : Type 0 where
  pub some_unit : 1 ≤ unit
  pub unit_in : unit ≤ 1000000
  pub few : length services ≤ 600
  pub within : All IsPriceNumber services

-- before weights stand fine prices
abbrev pub HasFinePrices : Next → ℕ → List ℤ → Type 0
HasFinePrices (stands.Weights left) unit services = AreFinePrices unit services
HasFinePrices _ unit services = Unit {0}

-- before groups the set without them is held
abbrev pub HoldsSet : Next → Option Prices → LatestFirst → Type 0
HoldsSet (stands.Bonds left) set said = set ≡ Some (record { unit = unit_of said; services = services_of said; weights = weights_of said; groups = [] })
HoldsSet _ set said = Unit {0}

-- the draft holds what these lines say
pub record HoldsDraft (draft : Draft) (said : LatestFirst) : Type 0 where
  pub next : draft.next ≡ next_of said
  pub lines : draft.lines ≡ length said
  pub steps : draft.steps ≡ steps_of said
  pub unit : draft.unit ≡ unit_of said
  pub services : draft.services.items ≡ services_of said
  pub head : IsHeadOf said draft.head
  pub fine : HasFinePrices draft.next (unit_of said) (services_of said)
  pub set : HoldsSet draft.next draft.set said
  pub fourth : draft.fourth ≡ (version_of said == 4)
  pub grouped : draft.grouped ≡ has_groups (sets_of said)
  pub counted : CountsNodes draft.next (length (nodes_of said)) (stated_nodes said)

-- at least as many lines as may still come
abbrev pub to_come : Next → ℕ
to_come stands.Version = 2199930
to_come stands.Counts = 2199929
to_come stands.Cost = 2199928
to_come stands.Bound = 2199927
to_come stands.Tours = 2199926
to_come (stands.Tour left) = left + 2099925
to_come stands.Shores = 2099925
to_come (stands.Shore left) = left + 2097924
to_come stands.Sets = 2097924
to_come (stands.Prices left) = 3 * left + 2097155
to_come (stands.Weights left) = 3 * left + 2097154
to_come (stands.Bonds left) = 3 * left + 2097153
to_come stands.Nodes = 2097155
to_come (stands.Node left subtrees) = left + 1
to_come stands.End = 1
to_come stands.Nothing = 0

-- how many tours, shores and sets there may be
abbrev pub Bounds : Next → (tours shores sets : ℕ) → Type 0
Bounds (stands.Tour left) tours shores sets = (1 ≤ left) × (tours + left ≤ 100000) × (shores ≡ 0) × (sets ≡ 0)
Bounds stands.Shores tours shores sets = (shores ≡ 0) × (sets ≡ 0)
Bounds (stands.Shore left) tours shores sets = (1 ≤ left) × (shores + left ≤ 2000) × (sets ≡ 0)
Bounds stands.Sets tours shores sets = sets ≡ 0
Bounds (stands.Prices left) tours shores sets = (1 ≤ left) × (sets + left ≤ 256)
Bounds (stands.Weights left) tours shores sets = (1 ≤ left) × (sets + left ≤ 256)
Bounds (stands.Bonds left) tours shores sets = (1 ≤ left) × (sets + left ≤ 256)
Bounds stands.Nodes tours shores sets = Unit {0}
Bounds (stands.Node left subtrees) tours shores sets = (1 ≤ left) × (1 ≤ subtrees) × (subtrees + left ≤ 2097154)
Bounds stands.End tours shores sets = Unit {0}
Bounds stands.Nothing tours shores sets = Unit {0}
Bounds _ tours shores sets = (tours ≡ 0) × (shores ≡ 0) × (sets ≡ 0)

-- before groups a set is held
abbrev pub HasSet : Next → Option Prices → Type 0
HasSet (stands.Bonds left) set = IsSome set
HasSet _ set = Unit {0}

-- no number of the draft is past what may come
pub record IsBounded (draft : Draft) : Type 0 where
  pub lines : draft.lines + to_come draft.next ≤ 2199930
  pub steps : draft.steps ≤ 2000000
  pub shores : length draft.head.shores ≤ 2000
  pub sets : length draft.head.sets.items ≤ 256
  pub set : HasSet draft.next draft.set
  pub bounds : Bounds draft.next (length draft.head.plan) (length draft.head.shores) (length draft.head.sets.items)
