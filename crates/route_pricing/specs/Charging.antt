-- What is known of the surcharges of an edge, and what is copied of them. No public contract speaks of this.
use Rattle.std.specs.Prelude.{◌≡◌, ℕ, ◌+◌, ◌*◌, ◌^◌, ◌<◌, ◌≤◌, List, length, ℤ, pos, ◌+ℤ◌, ◌≤ℤ◌, slice_index_or, ⊤}
use Rattle.route_pricing.specs.declared.charging.Charge.{Charge}
use Rattle.route_pricing.specs.declared.charging.Charge.TheVariants.{Free, Charged, Gained}
use Rattle.carp_base.specs.declared.edge.Task.{Task}
use Rattle.route_pricing.specs.declared.grid.Grid.{Grid}
use Rattle.route_pricing.specs.Partial.{base, charge_in, raised_in, surcharge_at}
use Rattle.route_pricing.specs.Pricing.{surcharge_in}

-- what is known is so of a surcharge
abbrev pub Holds : Charge → ℤ → Type 0
Holds Free z = z ≡ pos 0
Holds Charged z = pos 0 ≤ℤ z
Holds Gained z = ⊤

-- it is so of the surcharges of a row up to a column
abbrev pub HoldsOfRow : List ℤ → ℕ → ℕ → ℕ → Charge → Type 0
HoldsOfRow surcharges required row columns charge = (i : ℕ) → i < columns → i < required → Holds charge (slice_index_or surcharges (row * required + i) (pos 0))

-- the surcharges in a grid: for each pair that of the pricing, raised, and none below nothing where that is known
pub record AreCharged (required : ℕ) (surcharges : List ℤ) (charges : List Charge) (raised : List ℕ) : Type 0 where
  pub charges_long : length charges ≡ required
  pub raised_long : length raised ≡ required * required
  pub value : (e f : ℕ) → 1 ≤ e → e ≤ required → 1 ≤ f → f ≤ required → pos (raised_in required charges raised e f) ≡ surcharge_in required surcharges f e +ℤ pos base
  pub small : (e f : ℕ) → 1 ≤ e → e ≤ required → 1 ≤ f → f ≤ required → raised_in required charges raised e f ≤ 2 ^ 62
  pub charged : (e f : ℕ) → 1 ≤ e → e ≤ required → 1 ≤ f → f ≤ required → charge_in charges f ≡ Charged → base ≤ raised_in required charges raised e f

-- a surcharge below 0 where the second task is done directly after the first
abbrev pub IsGain : Grid → Task → Task → Type 0
IsGain g u t = surcharge_at g u.edge t.edge < base
