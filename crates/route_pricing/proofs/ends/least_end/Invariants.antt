use Rattle.std.proofs.Common.{◌≡◌, ◌<◌, ◌^◌, ◌⊎◌, ◌-◌}
use Rattle.route_pricing.specs.Ends.{IsLeastSoFar}
use Rattle.route_pricing.proofs.ends.least_end.Given as goal

abbrev pub invariant-loop-load : goal.invariant-loop-load
invariant-loop-load l = record {
  so_far : IsLeastSoFar l.grid l.load 0 l.best;
  small : l.best.home < 2 ^ 90 ⊎ (l.best.home ≡ 2 ^ 128 - 1);
}
