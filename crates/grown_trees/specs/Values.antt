-- The greatest bound that the value of a price set shows.
use Rattle.std.specs.Prelude.{◌⊎◌, ◌↔◌, ℕ, ◌*◌, ◌^◌, ◌<◌, ◌≤◌, ℤ, pos, ◌-ℤ◌, ◌*ℤ◌, ◌≤ℤ◌, ◌<ℤ◌}

-- a value, in parts of a unit, is above the bound less 1
abbrev pub IsShown : ℕ → ℤ → ℕ → Type 0
IsShown unit value bound = (pos unit *ℤ (pos bound -ℤ pos 1)) <ℤ value

-- A value shows each bound up to this number, and no greater one; bounds are below 10^18. So the value is no more than the number, or the
-- number is above all bounds.
pub record IsMostShown (unit : ℕ) (value : ℤ) (most : ℕ) : Type 0 where
  pub shown : (bound : ℕ) → bound < 10 ^ 18 → IsShown unit value bound ↔ (bound ≤ most)
  pub covers : (value ≤ℤ pos (unit * most)) ⊎ (10 ^ 18 ≤ most)
