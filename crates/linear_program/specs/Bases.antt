-- How a program is kept. No public contract speaks of this.
use Rattle.std.specs.Prelude.{◌≡◌, ℕ, ◌*◌, ◌≤◌, length}
use Rattle.linear_program.specs.Limits.{program_row_limit, store_row_limit, store_column_limit}
use Rattle.linear_program.specs.declared.basis.Basis.{Basis}

-- a basis with room for so many rows
pub record IsBasis (rows : ℕ) (b : Basis) : Type 0 where
  pub few : rows ≤ program_row_limit
  pub variables : length b.variables.items ≡ program_row_limit
  pub activities : length b.activities.items ≡ program_row_limit
  pub multipliers : length b.multipliers.items ≡ store_row_limit
  pub inverse : rows * program_row_limit ≤ length b.inverse.items
  pub basic : length b.basic.items ≡ store_column_limit
