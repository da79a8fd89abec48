-- How great the numbers of a proposal are.
use Rattle.std.specs.Prelude.{ℕ}

-- no deadhead price is greater
abbrev pub most_price : ℕ
most_price = 4000000000000000000

-- a pool holds so many shores at most
abbrev pub most_shores : ℕ
most_shores = 2000

-- the denominator of the prices of a proposal
abbrev pub denominator : ℕ
denominator = 1000000
