use Rattle.std.proofs.Common.{◌<◌, arith}
use Rattle.route_pricing.specs.Partial.{no_value}
use Rattle.route_pricing.specs.declared.ends.End.{End}
use Rattle.route_pricing.proofs.Ending.{home_finite}
use Rattle.route_pricing.proofs.Rating.{rate_more}
use Rattle.route_pricing.proofs.rates.better_rate.Goals as goal

pub returns-then-home-eq-UNREACHED-clause-so_far : goal.returns-then-home-eq-UNREACHED-clause-so_far
returns-then-home-eq-UNREACHED-clause-so_far c =
    let g = c.args.grid.now in
    let r = c.requires in
    rate_more g r.grid c.args.load c.args.column c.args.best c.args.best c.args.home r.load r.column r.so_far r.home r.so_far.attained
    (λ less. absurd (omega (arith, less, c.if-home-eq-UNREACHED.true))) (λ less. (less, omega arith)) (home_finite g r.grid c.args.load c.args.column c.args.home r.load r.column r.home)

pub returns-then-best-eq-UNREACHED-clause-so_far : goal.returns-then-best-eq-UNREACHED-clause-so_far
returns-then-best-eq-UNREACHED-clause-so_far c =
    let g = c.args.grid.now in
    let r = c.requires in
    let now : End = record { load = c.args.load; column = c.args.column; home = c.args.home } in
    rate_more g r.grid c.args.load c.args.column c.args.best now c.args.home r.load r.column r.so_far r.home
    (λ less. record { load_in = r.load; column_in = r.column; home = r.home.attained less }) (λ less. (less, omega arith))
    (λ less. absurd (omega (arith, less, c.if-best-eq-UNREACHED.true)))
    (home_finite g r.grid c.args.load c.args.column c.args.home r.load r.column r.home)

pub returns-then-product-clause-so_far : goal.returns-then-product-clause-so_far
returns-then-product-clause-so_far c =
    let g = c.args.grid.now in
    let r = c.requires in
    let now : End = record { load = c.args.load; column = c.args.column; home = c.args.home } in
    let below : c.args.home < no_value = omega (arith, c.if-home-eq-UNREACHED.false, c.ranges.home.fits) in
    rate_more g r.grid c.args.load c.args.column c.args.best now c.args.home r.load r.column r.so_far r.home
    (λ less. record { load_in = r.load; column_in = r.column; home = r.home.attained less }) (λ less. (less, omega arith))
    (λ less. (below, omega (arith, c.if-product.true, c.product.ensures, c.product-2.ensures)))
    (home_finite g r.grid c.args.load c.args.column c.args.home r.load r.column r.home)

pub returns-clause-so_far : goal.returns-clause-so_far
returns-clause-so_far c =
    let g = c.args.grid.now in
    let r = c.requires in
    let finite : c.args.best.home < no_value = omega (arith, c.if-best-eq-UNREACHED.false, c.requires.small_best) in
    rate_more g r.grid c.args.load c.args.column c.args.best c.args.best c.args.home r.load r.column r.so_far r.home r.so_far.attained
    (λ less. (finite, omega (arith, c.if-product.false, c.product.ensures, c.product-2.ensures))) (λ less. (less, omega arith))
    (home_finite g r.grid c.args.load c.args.column c.args.home r.load r.column r.home)
