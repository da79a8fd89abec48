use Rattle.std.proofs.Common.{◌≡◌, ◌≤◌, All, length}
use Rattle.price_points.specs.Limits.{most_price}
use Rattle.price_points.proofs.dual_repair.full_prices.Given as goal

abbrev pub invariant-loop-edge : goal.invariant-loop-edge
invariant-loop-edge l = record {
  one_each : length l.prices.items ≡ l.edge-index;
  small : All (λ n. n ≤ most_price) l.prices.items;
}
