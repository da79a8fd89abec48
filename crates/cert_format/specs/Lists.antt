-- Items that are held, and tests of the numbers of a line.
use Rattle.std.specs.Prelude.{◌≡◌, ℕ, ◌-◌, min, Bool, true, ◌&&◌, nat_le, nat_lt, pos, List, length, slice_index, take, not, ◌==◌}
use Rattle.std.specs.Ordering.{int_eq}
use Rattle.std.specs.List.{list_all}
use Rattle.plan_model.specs.declared.step.Step.{Step}
use Rattle.branch_rules.specs.declared.weight.Weight.{Weight}
use Rattle.cert_format.specs.Parts.{LineItems}
pub use Rattle.cert_format.specs.Numbers.{is_within, price_ok}
use Rattle.cert_format.specs.Groups.{groups_ok}
use Rattle.cert_format.specs.declared.items.Items.{Items}
use Rattle.cert_format.specs.declared.line.Context.{Context}
use Rattle.cert_format.specs.declared.kind.Kind.{Kind}
use Rattle.cert_format.specs.declared.kind.Kind.TheVariants.{Version, Counts, Cost, Bound, Tours, Tour, Shores, Shore, Sets, Prices, Weights, Bonds, Nodes, Pair, Cut, Price, Void, Fixed, End}

-- of these items so many are stated, and the numbers before them are in range or not: of items that are all in range the first
-- are kept
pub record HoldsList {T : Type 0} (items : Items T) (stated : ℕ) (head : Bool) (ok : T → Bool) (xs : List T) : Type 0 where
  pub states : items.stated ≡ stated
  pub found : items.found ≡ min (length xs) stated
  pub more : items.more ≡ nat_lt stated (length xs)
  pub in_range : items.in_range ≡ (head && list_all ok xs)
  pub kept : items.in_range ≡ true → items.kept.items ≡ take stated xs

-- the numbers of an item are in range
abbrev pub step_ok : Step → Bool
step_ok s = is_within 1 4000 s.edge

abbrev pub vertex_ok : ℕ → Bool
vertex_ok v = is_within 1 1000 v

abbrev pub weight_ok : ℕ → Weight → Bool
weight_ok borders w = is_within 1 borders w.shore && price_ok w.weight

-- a weight that is not 0, on a shore
abbrev pub weight_fine : Weight → Bool
weight_fine w = not (w.shore == 0) && not (int_eq w.weight (pos 0)) && price_ok w.weight

-- the numbers behind the first word are in range
abbrev pub fields_ok : Kind → Context → List ℕ → Bool
fields_ok Version c f = true
fields_ok Counts c f = is_within 1 1000 (slice_index f 0) && nat_le (slice_index f 1) 4000 && nat_le (slice_index f 2) 600 && is_within 1 30000 (slice_index f 3) && nat_le (slice_index f 4) 18000000
fields_ok Cost c f = nat_lt (slice_index f 0) 1000000000000000000
fields_ok Bound c f = nat_lt (slice_index f 0) 1000000000000000000
fields_ok Tours c f = nat_le (slice_index f 0) 100000
fields_ok Tour c f = nat_le (slice_index f 0) (2000000 - c.steps)
fields_ok Shores c f = nat_le (slice_index f 0) 2000
fields_ok Shore c f = is_within 1 999 (slice_index f 0)
fields_ok Sets c f = nat_le (slice_index f 0) 256
fields_ok Prices c f = is_within 1 1000000 (slice_index f 0) && nat_le (slice_index f 1) 600
fields_ok Weights c f = nat_le (slice_index f 0) c.shores
fields_ok Bonds c f = nat_le (slice_index f 0) 2000
fields_ok Nodes c f = is_within 1 2097153 (slice_index f 0)
fields_ok Pair c f = is_within 1 600 (slice_index f 0) && is_within 1 600 (slice_index f 1)
fields_ok Cut c f = is_within 1 c.shores (slice_index f 0) && nat_le (slice_index f 1) 1000000
fields_ok Price c f = is_within 1 c.sets (slice_index f 0)
fields_ok Void c f = true
fields_ok Fixed c f = true
fields_ok End c f = true

-- the numbers of the items are in range
abbrev pub items_ok : Kind → Context → LineItems → Bool
items_ok Tour c x = list_all step_ok x.steps
items_ok Shore c x = list_all vertex_ok x.vertices
items_ok Prices c x = list_all price_ok x.services
items_ok Weights c x = list_all (weight_ok c.shores) x.weights
items_ok Bonds c x = groups_ok x.groups x.rest
items_ok _ c x = true
