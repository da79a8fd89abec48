use Rattle.std.proofs.Common.{◌≡◌, ℕ, ◌+◌, ◌-◌, ◌*◌, ◌<◌, ◌≤◌, length}
use Rattle.deadhead_paths.specs.Table.{IsTowards, row_of}
use Rattle.deadhead_paths.proofs.making.distances.Given as goal

-- the rows before the target's are made
abbrev pub invariant-loop-target : goal.invariant-loop-target
invariant-loop-target l = record {
  from_one : 1 ≤ l.target;
  labels_long : length l.labels.items ≡ (l.target - 1) * (l.inst.vertices + 1);
  nexts_long : length l.nexts.items ≡ (l.target - 1) * (l.inst.vertices + 1);
  rows : (v : ℕ) → 1 ≤ v → v < l.target → IsTowards l.inst l.prices v (row_of (l.inst.vertices + 1) l.labels.items v) (row_of (l.inst.vertices + 1) l.nexts.items v);
}
