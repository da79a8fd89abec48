use Rattle.std.proofs.Common.{ℕ, ◌<◌, ◌≤◌, ◌++◌, List, get_or}
use Rattle.cut_pool.specs.declared.shore.Weighted.{Weighted}
use Rattle.capacity_cuts.specs.Levels.{AreShellsFrom}
use Rattle.capacity_cuts.proofs.shelling.list_shells.Given as goal

-- the lengths so far are at most the level, and whatever the shells from it on are, all are shells from 0 on
abbrev pub invariant-loop-end : goal.invariant-loop-end
invariant-loop-end l = record {
  below : (k : ℕ) → k < l.end-index → get_or l.ends k 0 ≤ l.level;
  carries : (rest : List Weighted) → AreShellsFrom l.inst l.level rest → AreShellsFrom l.inst 0 (l.shells.items ++ rest);
}
