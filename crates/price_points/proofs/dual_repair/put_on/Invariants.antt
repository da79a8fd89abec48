use Rattle.std.proofs.Common.{◌≤◌, All}
use Rattle.price_points.specs.Limits.{most_price}
use Rattle.price_points.proofs.dual_repair.put_on.Given as goal

abbrev pub invariant-loop-place : goal.invariant-loop-place
invariant-loop-place l = All (λ n. n ≤ most_price) l.prices
