-- A symmetric relation on the required edges: which of them may be neighbours.
use Rattle.std.specs.Prelude.{◌≡◌, ℕ, zero, suc, ◌+◌, ◌*◌, ◌≤◌, ◌==◌, nat_lt, Bool, ◌&&◌, not, false, ◌⊎◌, List, length, slice_index_or}

-- the entry of a pair stands in the row of its first edge, at the place of its second
pub record Relation : Type 0 where
  pub size : ℕ
  pub table : List Bool

-- the relation holds of two edges, whose numbers are from 1 to the size; of other numbers it holds of none
abbrev pub allows : Relation → ℕ → ℕ → Bool
allows r zero b = false
allows r (suc i) zero = false
allows r (suc i) (suc j) = nat_lt j r.size && slice_index_or r.table (i * r.size + j) false

-- one of the edges that the relation is on
pub record IsOf (r : Relation) (a : ℕ) : Type 0 where
  pub from_one : 1 ≤ a
  pub in_range : a ≤ r.size

-- it holds of two edges in either order, and of no edge with itself
pub record IsRelation (r : Relation) : Type 0 where
  pub square : length r.table ≡ r.size * r.size
  pub symmetric : (a b : ℕ) → IsOf r a → IsOf r b → allows r a b ≡ allows r b a
  pub irreflexive : (a : ℕ) → IsOf r a → allows r a a ≡ false

-- on this many edges, each two different ones are allowed
pub record AllowsAll (size : ℕ) (r : Relation) : Type 0 where
  pub on : r.size ≡ size
  pub each : (a b : ℕ) → IsOf r a → IsOf r b → allows r a b ≡ not (a == b)

-- the same pair, in either order
abbrev pub IsSamePair : ℕ → ℕ → ℕ → ℕ → Type 0
IsSamePair a b c d = ((c ≡ a) × (d ≡ b)) ⊎ ((c ≡ b) × (d ≡ a))

-- the pair is not allowed any more, and of each other pair nothing changes
pub record TakesOut (old new : Relation) (a b : ℕ) : Type 0 where
  pub on : new.size ≡ old.size
  pub out : (c d : ℕ) → IsSamePair a b c d → allows new c d ≡ false
  pub others : (c d : ℕ) → IsOf old c → IsOf old d → ¬ (IsSamePair a b c d) → allows new c d ≡ allows old c d
