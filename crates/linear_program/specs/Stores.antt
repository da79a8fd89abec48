-- A store of rows and columns, and what comes into it.
use Rattle.std.specs.Prelude.{◌≡◌, ◌+◌, List, ◌++◌, ◌∷◌, [], Option, Some, None, length}
use Rattle.linear_program.specs.declared.ids.RowId.{RowId}
use Rattle.linear_program.specs.declared.ids.ColumnId.{ColumnId}
use Rattle.linear_program.specs.declared.store.RowBounds.{RowBounds}
use Rattle.linear_program.specs.declared.store.Column.{Column}

-- rows and columns, each with its number from 0
pub record Contents : Type 0 where
  pub rows : List RowBounds
  pub columns : List Column

-- a row came behind the others
pub record IsRowBehind (before : Contents) (bounds : RowBounds) (row : RowId) (after : Contents) : Type 0 where
  pub number : row.number ≡ length before.rows
  pub rows : after.rows ≡ before.rows ++ bounds ∷ []
  pub columns : length after.columns ≡ length before.columns

-- a row came, or all is as it was
abbrev pub HasRowAdded : Contents → RowBounds → Option RowId → Contents → Type 0
HasRowAdded before bounds None after = after ≡ before
HasRowAdded before bounds (Some row) after = IsRowBehind before bounds row after

-- a column came behind the others
pub record IsColumnBehind (before : Contents) (column : ColumnId) (after : Contents) : Type 0 where
  pub number : column.number ≡ length before.columns
  pub rows : after.rows ≡ before.rows
  pub columns : length after.columns ≡ length before.columns + 1

-- a column came, or all is as it was
abbrev pub HasColumnAdded : Contents → Option ColumnId → Contents → Type 0
HasColumnAdded before None after = after ≡ before
HasColumnAdded before (Some column) after = IsColumnBehind before column after
