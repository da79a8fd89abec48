use Rattle.std.proofs.Common.{◌-◌, ◌∷◌, ◌++◌, [], arith, ap, ◌∙◌, subst, sym, refl, slice_index}
use Rattle.carp_base.specs.declared.edge.Task.{Task}
use Rattle.route_pricing.specs.Partial.{column_task, cell_place}
use Rattle.route_pricing.specs.Retracing.{IsTracing, turned_if}
use Rattle.route_pricing.proofs.Partials.{filled_less, cell_final}
use Rattle.route_pricing.proofs.WayBack.{tracing_first, tracing_more, tracing_done}
use Rattle.route_pricing.proofs.retracing.trace.Goals as goal

pub loop-load-init : goal.loop-load-init
loop-load-init c =
    let g = c.args.grid.now in
    let r = c.requires in
    let e = c.args.end in
    tracing_first g r.grid e.load e.column (slice_index c.args.cells.now (cell_place g e.load e.column)) c.args.turn c.args.tasks.now.items
    (cell_final g r.grid c.args.cells.now e.load e.column (cell_place g e.load e.column) r.filled r.load r.column refl) r.reached r.load r.column

pub before-column-requires-clause-filled : goal.before-column-requires-clause-filled
before-column-requires-clause-filled c = filled_less c.args.grid.now c.requires.grid c.args.cells.now _ _ c.requires.filled

pub task-requires : goal.task-requires
task-requires c =
    let g = c.args.grid.now in
    let e = c.args.end in
    let d = c.demand-in-loop-load in
    let value = slice_index c.args.cells.now (cell_place g e.load e.column) in
    let rest = c.loop-load.load - d.result in
    let less = c.loop-load-test.true in
    let next = c.before-column.result.column in
    (tracing_more g c.requires.grid (column_task e.column) e.load value c.args.turn c.args.tasks.now.items c.loop-load.load c.loop-load.column rest next c.before-column.result.joined c.loop-load.tasks.items
    c.loop-load.invariant (omega (arith, less, c.demand.ensures.value, d.ensures.value)) (omega (arith, less, c.demand.ensures.value, d.ensures.value)) c.before-column.ensures).column_in

pub loop-load-preserved : goal.loop-load-preserved
loop-load-preserved c =
    let g = c.args.grid.now in
    let e = c.args.end in
    let d = c.demand-in-loop-load in
    let value = slice_index c.args.cells.now (cell_place g e.load e.column) in
    let rest = c.loop-load.load - d.result in
    let less = c.loop-load-test.true in
    let next = c.before-column.result.column in
    let items = c.in_ok-push.ensures.items ∙ ap (λ (t : Task). c.loop-load.tasks.items ++ t ∷ []) (c.turned_if.ensures ∙ ap (turned_if c.args.turn) c.task.ensures.value) in
    subst (IsTracing g (column_task e.column) e.load value c.args.turn c.args.tasks.now.items rest next) (sym items)
    (tracing_more g c.requires.grid (column_task e.column) e.load value c.args.turn c.args.tasks.now.items c.loop-load.load c.loop-load.column rest next c.before-column.result.joined c.loop-load.tasks.items
    c.loop-load.invariant (omega (arith, less, c.demand.ensures.value, d.ensures.value)) (omega (arith, less, c.demand.ensures.value, d.ensures.value)) c.before-column.ensures)

pub returns : goal.returns
returns c =
    let g = c.args.grid.now in
    let e = c.args.end in
    tracing_done g c.requires.grid (column_task e.column) e.load (slice_index c.args.cells.now (cell_place g e.load e.column)) c.args.turn c.args.tasks.now.items c.loop-load.load c.loop-load.column c.loop-load.tasks.items
    c.loop-load.invariant (omega (arith, c.loop-load-test.false, c.demand.ensures.value))
