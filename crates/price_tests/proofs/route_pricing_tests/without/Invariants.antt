use Rattle.std.proofs.Common.{◌≡◌}
use Rattle.price_tests.proofs.route_pricing_tests.without.Given as goal

abbrev pub invariant-loop-pair : goal.invariant-loop-pair
invariant-loop-pair l = l.allowed.size ≡ l.inst.required
