use Rattle.std.proofs.Common.{◌<◌, arith}
use Rattle.route_pricing.specs.Partial.{no_value}
use Rattle.route_pricing.specs.declared.ends.End.{End}
use Rattle.route_pricing.proofs.Ending.{so_far_more, home_finite}
use Rattle.route_pricing.proofs.ends.better.Goals.{then-best-via-then-best, then-best-via-else-best+then-total}
use Rattle.route_pricing.proofs.ends.better.Goals as goal

pub returns-then-home-eq-UNREACHED-clause-so_far : goal.returns-then-home-eq-UNREACHED-clause-so_far
returns-then-home-eq-UNREACHED-clause-so_far c =
    let g = c.args.grid.now in
    let r = c.requires in
    so_far_more g r.grid c.args.load c.args.column c.args.best c.args.best c.args.home r.load r.column r.so_far r.home r.so_far.attained
    (λ less. absurd (omega (arith, less, c.if-home-eq-UNREACHED.true))) (λ less. (less, omega arith)) (home_finite g r.grid c.args.load c.args.column c.args.home r.load r.column r.home)

pub returns-then-best-clause-so_far : goal.returns-then-best-clause-so_far
returns-then-best-clause-so_far c =
    let g = c.args.grid.now in
    let r = c.requires in
    let now : End = record { load = c.args.load; column = c.args.column; home = c.args.home } in
    let below : c.args.home < no_value = omega (arith, c.if-home-eq-UNREACHED.false, c.ranges.home.fits) in
    so_far_more g r.grid c.args.load c.args.column c.args.best now c.args.home r.load r.column r.so_far r.home
    (λ less. record { load_in = r.load; column_in = r.column; home = r.home.attained less }) (λ less. (less, omega arith))
    (λ less. (
      below,
      elim c.then-best.branch [
        | then-best-via-then-best w ↦ absurd (omega (arith, less, w.if-best.true))
        | then-best-via-else-best+then-total w ↦ omega (arith, w.if-total.true, w.total.ensures, w.total-else-best.ensures)
      ],
    ))
    (home_finite g r.grid c.args.load c.args.column c.args.home r.load r.column r.home)

pub returns-clause-so_far : goal.returns-clause-so_far
returns-clause-so_far c =
    let g = c.args.grid.now in
    let r = c.requires in
    let finite : c.args.best.home < no_value = omega (arith, c.if-best.false, c.requires.small_best) in
    so_far_more g r.grid c.args.load c.args.column c.args.best c.args.best c.args.home r.load r.column r.so_far r.home r.so_far.attained
    (λ less. (finite, omega (arith, c.if-total.false, c.total.ensures, c.total-else-best.ensures))) (λ less. (less, omega arith))
    (home_finite g r.grid c.args.load c.args.column c.args.home r.load r.column r.home)
