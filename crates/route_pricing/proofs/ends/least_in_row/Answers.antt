use Rattle.std.proofs.Common.{◌≡◌, ◌*◌, arith, subst}
use Rattle.route_pricing.specs.Ends.{IsLeastSoFar}
use Rattle.route_pricing.proofs.Ending.{so_far_next}
use Rattle.route_pricing.proofs.ends.least_in_row.Goals as goal

pub returns-clause-least : goal.returns-clause-least
returns-clause-least c =
    let g = c.args.grid.now in
    let all : c.loop-column.column ≡ 2 * g.inst.required = omega (arith, c.width-column-end.ensures, c.loop-column.auto.column-end, c.loop-column-test.false) in
    so_far_next g c.requires.grid c.args.load c.loop-column.best (subst (λ n. IsLeastSoFar g c.args.load n c.loop-column.best) all c.loop-column.invariant.so_far)
