use Rattle.std.proofs.Common.{◌≡◌, ◌≤◌, ◌<◌, ◌^◌, ◌⊎◌, ◌-◌}
use Rattle.route_pricing.specs.Ends.{IsLeastRateSoFar}
use Rattle.route_pricing.proofs.rates.least_rate_in_row.Given as goal

abbrev pub invariant-loop-column : goal.invariant-loop-column
invariant-loop-column l = record {
  so_far : IsLeastRateSoFar l.grid l.load l.column l.best;
  load_small : l.best.load ≤ 30000;
  small : l.best.home < 2 ^ 90 ⊎ (l.best.home ≡ 2 ^ 128 - 1);
}
