-- How much a store and a program have room for.
use Rattle.std.specs.Prelude.{ℕ}

-- the most rows of a store
abbrev pub store_row_limit : ℕ
store_row_limit = 4000

-- the most columns of a store
abbrev pub store_column_limit : ℕ
store_column_limit = 64000

-- the most rows that a program has in use
abbrev pub program_row_limit : ℕ
program_row_limit = 700
