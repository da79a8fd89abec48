use Rattle.std.proofs.Common.{ℕ, ◌<◌, ◌≤◌, get_or}
use Rattle.matching_duals.specs.Levels.{Adds}
use Rattle.matching_duals.proofs.runs.add_ends.Given as goal

-- the ends so far are at most the level, and the sides of the levels below it are added
abbrev pub invariant-loop-end : goal.invariant-loop-end
invariant-loop-end l = record {
  below : (k : ℕ) → k < l.end-index → get_or l.ends k 0 ≤ l.level;
  most : l.level ≤ l.weight;
  added : Adds l.inst l.depths 0 l.level l.fn.shores.items l.shores.items;
}
