-- What contracts of a program see of its selection. No public contract speaks of this.
use Rattle.linear_program.specs.declared.selection.Selection.{Selection}
use Rattle.linear_program.specs.Programs.{InUse}

-- what is in use
abbrev pub in_use : Selection → InUse
in_use s = record { rows = s.rows.items; columns = s.columns.items; bounds = s.bounds.items; forbidden = s.forbidden.items }
