use Rattle.std.proofs.Common.{◌≡◌, ◌≤◌, ◌<◌, ◌^◌, ◌⊎◌, ◌-◌}
use Rattle.route_pricing.specs.Ends.{IsLeastRateSoFar}
use Rattle.route_pricing.proofs.rates.least_rate_end.Given as goal

abbrev pub invariant-loop-load : goal.invariant-loop-load
invariant-loop-load l = record {
  so_far : IsLeastRateSoFar l.grid l.load 0 l.best;
  load_small : l.best.load ≤ 30000;
  small : l.best.home < 2 ^ 90 ⊎ (l.best.home ≡ 2 ^ 128 - 1);
}
