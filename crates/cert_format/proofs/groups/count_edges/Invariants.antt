use Rattle.std.proofs.Common.{◌≡◌, ◌*◌, ◌≤◌, ◌<◌, ℕ, length, take, get_or, sum_by}
use Rattle.branch_rules.specs.Bonds.{GroupWeight}
use Rattle.branch_rules.specs.Limits.{IsFineGroup}
use Rattle.cert_format.proofs.groups.count_edges.Given as goal

-- the edges so far, and that they are few
abbrev pub invariant-loop-group : goal.invariant-loop-group
invariant-loop-group l = record {
  count : l.count ≡ sum_by (λ (w : GroupWeight). length w.edges) (take l.group-index l.groups);
  small : l.count ≤ 600 * l.group-index;
  fine : (k : ℕ) (d : GroupWeight) → k < l.group-index → IsFineGroup (get_or l.groups k d);
}
