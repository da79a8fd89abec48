use Rattle.std.proofs.Common.{◌≡◌, ◌+◌, arith, subst}
use Rattle.route_pricing.specs.Ends.{IsLeastRateSoFar}
use Rattle.route_pricing.proofs.rates.least_rate_end.Goals as goal

pub returns-clause-least : goal.returns-clause-least
returns-clause-least c =
    let g = c.args.grid.now in
    let all : c.loop-load.load ≡ g.inst.capacity + 1 = omega (arith, c.capacity.ensures.value, c.loop-load.auto.load-end, c.loop-load-test.false) in
    subst (λ n. IsLeastRateSoFar g n 0 c.loop-load.best) all c.loop-load.invariant.so_far
