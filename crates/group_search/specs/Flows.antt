-- How much of one service directly follows another in a fractional solution, in parts of 2^20.
use Rattle.std.specs.Prelude.{◌≡◌, ℕ, ◌+◌, ◌*◌, ◌≤◌, Bool, ◌==◌, ◌&&◌, ◌||◌, List, length, min, slice_index_or, if◌then◌else◌}

-- so many services a table has at most
abbrev pub most_services : ℕ
most_services = 600

-- no flow from one service to another is greater
abbrev pub most_flow : ℕ
most_flow = 4294967295

-- no flow from so many services to one is greater
abbrev pub most_flow_out : ℕ
most_flow_out = 2576980377000

-- the flow from each service to each: a row of numbers for the depot, and one for each required edge
pub record FlowTable : Type 0 where
  pub services : ℕ
  pub amounts : List ℕ

-- a row for each of at most 600 services and the depot, with a number for each of them
pub record IsTable (flow : FlowTable) : Type 0 where
  pub few : flow.services ≤ most_services
  pub long : length flow.amounts ≡ (flow.services + 1) * (flow.services + 1)

-- the flow between two services: required edges by their numbers, and 0 for the depot
abbrev pub between : FlowTable → ℕ → ℕ → ℕ
between flow e f = slice_index_or flow.amounts (e * (flow.services + 1) + f) 0

-- one service is e and the other f, in this order
abbrev pub is_pair : ℕ → ℕ → ℕ → ℕ → Bool
is_pair e f x y = (e == x) && (f == y)

-- a flow and so many parts more, as far as a flow can go
abbrev pub more : ℕ → ℕ → ℕ
more flow amount = min (flow + amount) most_flow

-- so many parts more flow between e and f, in both orders, and no other change
pub record IsAdded (e f amount : ℕ) (before after : FlowTable) : Type 0 where
  pub services : after.services ≡ before.services
  pub each : (x y : ℕ) → x ≤ before.services → y ≤ before.services →
      between after x y ≡ (if is_pair e f x y || is_pair f e x y then more (between before x y) amount else between before x y)

-- so many parts more flow from e to f, and no other change
pub record IsRaised (e f amount : ℕ) (before after : FlowTable) : Type 0 where
  pub services : after.services ≡ before.services
  pub each : (x y : ℕ) → x ≤ before.services → y ≤ before.services →
      between after x y ≡ (if is_pair e f x y then more (between before x y) amount else between before x y)
