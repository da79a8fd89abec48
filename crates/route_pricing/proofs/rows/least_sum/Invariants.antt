use Rattle.std.proofs.Common.{ℕ, ◌+◌, ◌<◌, ◌≤◌, slice_index}
use Rattle.route_pricing.specs.Legs.{IsSum, far}
use Rattle.route_pricing.proofs.rows.least_sum.Given as goal

abbrev pub invariant-loop-before : goal.invariant-loop-before
invariant-loop-before l = record {
  small : l.best ≤ far;
  attained : l.best < far → IsSum l.row l.legs l.from l.best;
  least : (b : ℕ) → b < l.before → l.best ≤ slice_index l.row b + slice_index l.legs (l.from + b);
}
