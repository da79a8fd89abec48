use Rattle.ruin_recreate.specs.Tables.{AddsLinks}
use Rattle.ruin_recreate.proofs.tables.add_row.Given as goal

abbrev pub invariant-loop-y : goal.invariant-loop-y
invariant-loop-y l = AddsLinks l.inst l.x l.y l.fn.links.items l.links.items
