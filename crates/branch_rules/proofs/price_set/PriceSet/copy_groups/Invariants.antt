use Rattle.std.proofs.Common.{◌≡◌, take}
use Rattle.branch_rules.proofs.price_set.PriceSet.copy_groups.Given as goal

-- the groups so far
abbrev pub invariant-loop-i : goal.invariant-loop-i
invariant-loop-i l = l.groups.items ≡ take l.i l.self-inside.groups.items
