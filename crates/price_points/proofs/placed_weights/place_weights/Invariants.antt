use Rattle.std.proofs.Common.{◌≡◌, ◌+◌, All, length}
use Rattle.cut_pool.specs.Pools.{IsGrown}
use Rattle.cut_pool.specs.Shores.{Belongs}
use Rattle.branch_rules.specs.Limits.{IsPriceNumber}
use Rattle.price_points.specs.Limits.{most_shores}
use Rattle.price_points.proofs.placed_weights.place_weights.Given as goal

abbrev pub invariant-loop-weighted : goal.invariant-loop-weighted
invariant-loop-weighted l = record {
  one_each : length l.placed.items ≡ most_shores + 1;
  within : All IsPriceNumber l.placed.items;
  grown : IsGrown l.fn.pool l.pool;
  belong : All (Belongs l.inst) l.pool;
}
