use Rattle.std.proofs.Common.{◌≡◌, ◌*◌, arith, subst}
use Rattle.route_pricing.specs.Ends.{IsLeastRateSoFar}
use Rattle.route_pricing.proofs.Rating.{rate_next}
use Rattle.route_pricing.proofs.rates.least_rate_in_row.Goals as goal

pub returns-clause-least : goal.returns-clause-least
returns-clause-least c =
    let g = c.args.grid.now in
    let all : c.loop-column.column ≡ 2 * g.inst.required = omega (arith, c.width-column-end.ensures, c.loop-column.auto.column-end, c.loop-column-test.false) in
    rate_next g c.requires.grid c.args.load c.loop-column.best (subst (λ n. IsLeastRateSoFar g c.args.load n c.loop-column.best) all c.loop-column.invariant.so_far)
