use Rattle.std.proofs.lemmas.Bool.{cases_lt}
use Rattle.std.proofs.Common.{◌<◌, ◌+◌, ◌∙◌, get_or, sym, arith, inl, inr}
use Rattle.route_pricing.specs.Partial.{no_value, column_task, least_raised}
use Rattle.route_pricing.proofs.PartialTours.{cell_small, from_cell, up_to_more}
use Rattle.route_pricing.proofs.Succeeding.{passed_over, excluded, cell_is, may_back}
use Rattle.route_pricing.proofs.grid.Grid.lowered.Goals as goal

pub returns-then-value-limit-clause-least : goal.returns-then-value-limit-clause-least
returns-then-value-limit-clause-least c =
    let r = c.requires in
    passed_over c.args.self.now r.grid c.args.next.now r.next c.args.before r.before c.args.cells.now (c.args.limit + least_raised c.args.next.now.charge) r.filled r.limit (omega (arith, c.if-value-limit.true))

pub returns-then-not-may_precede-clause-least : goal.returns-then-not-may_precede-clause-least
returns-then-not-may_precede-clause-least c =
    let r = c.requires in
    excluded c.args.self.now r.grid c.args.next.now r.next c.args.before r.before (c.args.limit + least_raised c.args.next.now.charge) c.may_precede.result c.may_precede.ensures c.if-not-may_precede.true r.limit

pub overflow_add-value-2 : goal.overflow_add-value-2
overflow_add-value-2 c =
    let g = c.args.self.now in
    let r = c.requires in
    let x = c.args.next.now in
    let value = get_or c.args.cells.now (x.cells + c.args.before) 0 in
    let there : value < no_value = omega (arith, c.if-value-limit.false, c.ranges.limit.fits) in
    omega (arith, cell_small g r.grid x.load (column_task c.args.before) value (cell_is g r.grid x r.next c.args.before r.before c.args.cells.now r.filled) r.next.fits there, c.leg_above.ensures.small)

pub returns-clause-least : goal.returns-clause-least
returns-clause-least c =
    let g = c.args.self.now in
    let r = c.requires in
    let x = c.args.next.now in
    let u = column_task c.args.before in
    let t = column_task x.column in
    let least = least_raised x.charge in
    let value = get_or c.args.cells.now (x.cells + c.args.before) 0 in
    let there : value < no_value = omega (arith, c.if-value-limit.false, c.ranges.limit.fits) in
    let cell = cell_is g r.grid x r.next c.args.before r.before c.args.cells.now r.filled in
    let allowed = sym (may_back g r.grid x r.next c.args.before r.before c.may_precede.result c.may_precede.ensures) ∙ c.if-not-may_precede.false in
    let one = from_cell g r.grid x.load u t value (value + c.leg_above.result + least) cell r.next.fits allowed there (omega (arith, c.leg_above.ensures.value)) in
    let other = value + c.leg_above.result in
    let now = c.min.result + least in
    up_to_more g r.grid x.load t c.args.before (c.args.limit + least) (other + least) now r.limit one (omega (arith, c.min.ensures)) (omega (arith, c.min.ensures))
    (elim (cases_lt c.args.limit other) [ inl less ↦ inl (omega (arith, c.min.ensures, less)) | inr more ↦ inr (omega (arith, c.min.ensures, more)) ])
