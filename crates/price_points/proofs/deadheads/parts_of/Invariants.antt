use Rattle.std.proofs.Common.{◌≡◌, ◌≤◌, All, length}
use Rattle.price_points.proofs.deadheads.parts_of.Given as goal

abbrev pub invariant-loop-place : goal.invariant-loop-place
invariant-loop-place l = record {
  one_each : length l.parts.items ≡ l.place;
  small : All (λ n. n ≤ 1000000000000) l.parts.items;
}
