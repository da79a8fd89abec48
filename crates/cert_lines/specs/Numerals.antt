-- The digits of a number of any size. (`decimal` of std gives the last 64 digits at most.)
use Rattle.std.specs.Prelude.{ℕ, zero, suc, ◌+◌, List, [], ◌∷◌, map, ℤ, pos, negsuc}
use Rattle.std.specs.Int.Digits.{digits_of}

-- the digits of a number: `0`, or digits of which the first is not `0`
unfoldable pub numeral : ℕ → List ℕ
numeral zero = 48 ∷ []
numeral (suc n) = map (λ d. 48 + d) (digits_of 10 (suc n))

-- the same with `-` before it, if it is negative
abbrev pub signed_numeral : ℤ → List ℕ
signed_numeral (pos n) = numeral n
signed_numeral (negsuc n) = 45 ∷ numeral (suc n)
