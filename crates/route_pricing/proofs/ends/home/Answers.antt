use Rattle.std.proofs.Common.{arith, ap, ◌∙◌, inl}
use Rattle.route_pricing.specs.Partial.{column_task, between, task_end}
use Rattle.route_pricing.proofs.Partials.{cell_final}
use Rattle.route_pricing.proofs.Ending.{home_some, home_below, home_none}
use Rattle.route_pricing.proofs.ends.home.Goals as goal

pub overflow_add-result : goal.overflow_add-result
overflow_add-result c =
    let g = c.args.grid.now in
    let r = c.requires in
    let cell = cell_final g r.grid c.args.cells.now c.args.load c.args.column c.place.result r.filled r.load r.column c.place.ensures in
    let way = c.between.ensures ∙ ap (λ a. between g a c.depot.result) c.end.ensures.value ∙ ap (between g (task_end g (column_task c.args.column))) c.depot.ensures.value in
    omega (arith, way, home_below g r.grid c.args.load c.args.column _ cell r.load r.column c.if-value-lt-UNREACHED.true)

pub returns-then-value-lt-UNREACHED-clause-least : goal.returns-then-value-lt-UNREACHED-clause-least
returns-then-value-lt-UNREACHED-clause-least c =
    let g = c.args.grid.now in
    let r = c.requires in
    let cell = cell_final g r.grid c.args.cells.now c.args.load c.args.column c.place.result r.filled r.load r.column c.place.ensures in
    let way = c.between.ensures ∙ ap (λ a. between g a c.depot.result) c.end.ensures.value ∙ ap (between g (task_end g (column_task c.args.column))) c.depot.ensures.value in
    home_some g r.grid c.args.load c.args.column _ _ cell r.load r.column c.if-value-lt-UNREACHED.true (omega (arith, way))

pub returns-then-value-lt-UNREACHED-clause-small : goal.returns-then-value-lt-UNREACHED-clause-small
returns-then-value-lt-UNREACHED-clause-small c =
    let g = c.args.grid.now in
    let r = c.requires in
    let cell = cell_final g r.grid c.args.cells.now c.args.load c.args.column c.place.result r.filled r.load r.column c.place.ensures in
    let way = c.between.ensures ∙ ap (λ a. between g a c.depot.result) c.end.ensures.value ∙ ap (between g (task_end g (column_task c.args.column))) c.depot.ensures.value in
    inl (omega (arith, way, home_below g r.grid c.args.load c.args.column _ cell r.load r.column c.if-value-lt-UNREACHED.true))

pub returns-else-value-lt-UNREACHED-clause-least : goal.returns-else-value-lt-UNREACHED-clause-least
returns-else-value-lt-UNREACHED-clause-least c =
    let g = c.args.grid.now in
    let r = c.requires in
    let cell = cell_final g r.grid c.args.cells.now c.args.load c.args.column c.place.result r.filled r.load r.column c.place.ensures in
    home_none g r.grid c.args.load c.args.column _ cell r.load (omega (arith, c.if-value-lt-UNREACHED.false))
