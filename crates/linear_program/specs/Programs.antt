-- What a program has in use, and what becomes of it.
use Rattle.std.specs.Prelude.{◌≡◌, ℕ, ◌≤◌, List, ◌++◌, ◌∷◌, [], Bool, if◌then◌else◌, length}
use Rattle.std.specs.List.{remove}
use Rattle.linear_program.specs.declared.ids.RowId.{RowId}
use Rattle.linear_program.specs.declared.ids.ColumnId.{ColumnId}
use Rattle.linear_program.specs.declared.selection.Bounds.{Bounds}

-- rows and columns of a store in use, the bounds of the multiplier of each row of the store, and whether each column of it is forbidden
pub record InUse : Type 0 where
  pub rows : List RowId
  pub columns : List ColumnId
  pub bounds : List Bounds
  pub forbidden : List Bool

-- a row came behind the others, or all rows stay; its bounds alone may be new
pub record IsRowOffered (row : RowId) (used : Bool) (before after : InUse) : Type 0 where
  pub rows : after.rows ≡ (if used then before.rows ++ row ∷ [] else before.rows)
  pub columns : after.columns ≡ before.columns
  pub forbidden : after.forbidden ≡ before.forbidden

-- the row at a place went, or all is as it was
pub record IsRowTaken (place : ℕ) (taken : Bool) (before after : InUse) : Type 0 where
  pub rows : after.rows ≡ (if taken then remove before.rows place else before.rows)
  pub columns : after.columns ≡ before.columns
  pub bounds : after.bounds ≡ before.bounds
  pub forbidden : after.forbidden ≡ before.forbidden

-- a column came behind the others, or all is as it was
pub record IsColumnOffered (column : ColumnId) (used : Bool) (before after : InUse) : Type 0 where
  pub rows : after.rows ≡ before.rows
  pub columns : after.columns ≡ (if used then before.columns ++ column ∷ [] else before.columns)
  pub bounds : after.bounds ≡ before.bounds
  pub forbidden : after.forbidden ≡ before.forbidden

-- no column more is in use, and all else is as it was
pub record HasNoMoreColumns (before after : InUse) : Type 0 where
  pub rows : after.rows ≡ before.rows
  pub columns : length after.columns ≤ length before.columns
  pub bounds : after.bounds ≡ before.bounds
  pub forbidden : after.forbidden ≡ before.forbidden
