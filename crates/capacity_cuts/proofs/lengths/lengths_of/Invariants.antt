use Rattle.std.proofs.Common.{◌≡◌, ℕ, ◌<◌, ◌≤◌, length, get_or}
use Rattle.carp_base.specs.Problem.{IsVertex}
use Rattle.capacity_cuts.specs.Lengths.{IsLength}
use Rattle.capacity_cuts.proofs.lengths.lengths_of.Given as goal

abbrev pub invariant-loop-v : goal.invariant-loop-v
invariant-loop-v l = record {
  long : length l.lengths.items ≡ l.v;
  zero : get_or l.lengths.items 0 0 ≡ 0;
  each : (w : ℕ) → IsVertex l.inst w → w < l.v → IsLength l.inst w (get_or l.lengths.items w 0);
  small : (w : ℕ) → get_or l.lengths.items w 0 ≤ 1000000000;
}
