use Rattle.std.proofs.Common.{◌≡◌, ◌<◌, ◌^◌, ◌⊎◌, ◌-◌}
use Rattle.route_pricing.specs.Ends.{IsLeastSoFar}
use Rattle.route_pricing.proofs.ends.least_in_row.Given as goal

abbrev pub invariant-loop-column : goal.invariant-loop-column
invariant-loop-column l = record {
  so_far : IsLeastSoFar l.grid l.load l.column l.best;
  small : l.best.home < 2 ^ 90 ⊎ (l.best.home ≡ 2 ^ 128 - 1);
}
