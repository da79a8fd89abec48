-- Legs and values in 64 bits: what stands for a number that is too great is no more than it. No public contract speaks of this.
use Rattle.std.specs.Prelude.{◌≡◌, ◌≢◌, ℕ, ◌+◌, ◌*◌, ◌<◌, ◌≤◌, true, List, length, slice_index}
use Rattle.carp_base.specs.declared.edge.Task.{Task}
use Rattle.route_pricing.specs.declared.charging.Charge.TheVariants.{Free}
use Rattle.route_pricing.specs.declared.grid.Grid.{Grid}
use Rattle.route_pricing.specs.Partial.{no_value, width, column_task, charge_at, leg, may_follow, Reaches}

-- what stands for each number that is no less
abbrev pub far : ℕ
far = 4611686018427387904

-- what stands for a number: itself, or `far`
pub record IsCapped (number short : ℕ) : Type 0 where
  pub small : short ≤ far
  pub exact : short < far → short ≡ number
  pub least : short ≤ number

-- what stands for the leg from the task u to the task t, if t may follow, or else `far`
pub record IsShortLeg (g : Grid) (u t : Task) (short : ℕ) : Type 0 where
  pub small : short ≤ far
  pub allowed : short < far → may_follow g u t ≡ true
  pub exact : short < far → short ≡ leg g u t
  pub least : may_follow g u t ≡ true → short ≤ leg g u t

-- the row of a column has such numbers for the tasks of the first columns
abbrev pub IsLegRow : Grid → ℕ → ℕ → List ℕ → Type 0
IsLegRow g column columns legs = (b : ℕ) → b < columns → IsShortLeg g (column_task b) (column_task column) (slice_index legs (column * width g + b))

-- so it is if the edge of the column has surcharges
abbrev pub legs_written : Grid → ℕ → List ℕ → Type 0
legs_written g column legs = charge_at g (column_task column).edge ≢ Free → IsLegRow g column (width g) legs

-- all rows
abbrev pub AreLegs : Grid → List ℕ → Type 0
AreLegs g legs = (c : ℕ) → c < width g → legs_written g c legs

-- the rows before that of a column stay
abbrev pub KeepsRows : Grid → ℕ → List ℕ → List ℕ → Type 0
KeepsRows g column old new = (i : ℕ) → i < column * width g → slice_index new i ≡ slice_index old i

-- how far a value is above the least of its load, in the same way, or `far` if there is no value
pub record IsShortValue (value lowest short : ℕ) : Type 0 where
  pub small : short ≤ far
  pub exact : short < far → (value < no_value) × (lowest + short ≡ value)
  pub least : value < no_value → lowest + short ≤ value

-- in the first columns of a row stands how far the least partial tours of the load that end with their tasks are above a number
pub record IsShortRow (g : Grid) (load lowest columns : ℕ) (row : List ℕ) : Type 0 where
  pub small : (b : ℕ) → b < columns → slice_index row b ≤ far
  pub attained : (b : ℕ) → b < columns → slice_index row b < far → Reaches g (column_task b) load (lowest + slice_index row b)
  pub least : (b w : ℕ) → b < columns → Reaches g (column_task b) load w → lowest + slice_index row b ≤ w

-- a sum of a number of the row and that of the same column from a place on
pub record IsSum (row legs : List ℕ) (from n : ℕ) : Type 0 where
  pub column : ℕ
  pub inside : column < length row
  pub sum : n ≡ slice_index row column + slice_index legs (from + column)

-- so it is of a load if an edge has surcharges
abbrev pub IsRowOf : Grid → ℕ → ℕ → ℕ → List ℕ → Type 0
IsRowOf g load least e row = charge_at g e ≢ Free → IsShortRow g load least (width g) row
