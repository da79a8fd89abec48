use Rattle.std.proofs.Common.{take}
use Rattle.branch_rules.specs.Tables.{IsAdded, group_amount}
use Rattle.branch_rules.proofs.surcharges.add_members.Given as goal

-- the rows of the edges so far
abbrev pub invariant-loop-e : goal.invariant-loop-e
invariant-loop-e l = IsAdded l.required l.initial.table l.table (group_amount l.weight l.edges (take l.e-index l.edges))
