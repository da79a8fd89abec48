-- What holds of all towns.
use Rattle.std.specs.Prelude.{ℕ}
use Rattle.carp_base.specs.Problem.{IsValid}
use Rattle.town_maker.specs.Towns.{town_of}

-- each number has a valid town
abbrev pub TownsAreValid : Type 0
TownsAreValid = (seed : ℕ) → IsValid (town_of seed)
