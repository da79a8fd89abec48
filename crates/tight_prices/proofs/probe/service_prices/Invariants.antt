use Rattle.std.proofs.Common.{◌≡◌, ◌-◌, take}
use Rattle.tight_prices.proofs.probe.service_prices.Given as goal

abbrev pub invariant-loop-edge : goal.invariant-loop-edge
invariant-loop-edge l = l.prices.items ≡ take (l.edge - 1) l.set.services
