use Rattle.std.proofs.Common.{◌≡◌, ℕ, ◌*◌, length, take, pos, neg_ℤ, ◌≤ℤ◌}
use Rattle.branch_rules.specs.Bonds.{entry, surcharge}
use Rattle.branch_rules.specs.Tables.{ArePlaced}
use Rattle.branch_rules.proofs.surcharges.add_groups.Given as goal

-- the weights of the groups so far
abbrev pub invariant-loop-group : goal.invariant-loop-group
invariant-loop-group l = record {
  long : length l.table ≡ l.required * l.required;
  same : (e f : ℕ) → ArePlaced l.required e f → entry l.required l.table e f ≡ surcharge (take l.group-index l.groups) e f;
  low : (e f : ℕ) → ArePlaced l.required e f → neg_ℤ (pos (1000000000000000 * l.group-index)) ≤ℤ entry l.required l.table e f;
  high : (e f : ℕ) → ArePlaced l.required e f → entry l.required l.table e f ≤ℤ pos (1000000000000000 * l.group-index);
}
