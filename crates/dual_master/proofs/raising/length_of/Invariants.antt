use Rattle.std.proofs.Common.{◌≡◌, ◌+◌, ◌*◌, ◌≤◌, length, take}
use Rattle.std.specs.Prelude.{sum_by}
use Rattle.branch_rules.specs.Bonds.{GroupWeight}
use Rattle.dual_master.proofs.raising.length_of.Given as goal

-- the length so far, and that it is small
abbrev pub invariant-loop-group : goal.invariant-loop-group
invariant-loop-group l = record {
  value : l.length ≡ sum_by (λ (w : GroupWeight). length w.edges + 6) (take l.group-index l.groups);
  small : l.length ≤ 606 * l.group-index;
}
