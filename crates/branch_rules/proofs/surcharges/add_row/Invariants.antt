use Rattle.std.proofs.Common.{take}
use Rattle.branch_rules.specs.Tables.{IsAdded, row_amount}
use Rattle.branch_rules.proofs.surcharges.add_row.Given as goal

-- the pairs with the edges so far
abbrev pub invariant-loop-f : goal.invariant-loop-f
invariant-loop-f l = IsAdded l.required l.initial.table l.table (row_amount l.weight (take l.f-index l.edges) l.e)
