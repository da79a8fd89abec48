-- A line that ends in a number.
use Rattle.std.specs.Prelude.{ℕ, ◌++◌, List, codes, decimal}

-- words, a number and the end of the line
unfoldable pub number_line : List ℕ → ℕ → List ℕ
number_line words number = words ++ decimal number ++ codes "\n"
