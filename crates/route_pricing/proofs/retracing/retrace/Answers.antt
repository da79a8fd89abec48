use Rattle.std.proofs.Common.{◌≡◌, ◌∷◌, ◌++◌, [], false, ap, ◌∙◌, subst, sym, refl, slice_index}
use Rattle.carp_base.specs.declared.edge.Task.{Task}
use Rattle.route_pricing.specs.Partial.{column_task, cell_place}
use Rattle.route_pricing.specs.Retracing.{IsRetraced, IsTraced}
use Rattle.route_pricing.proofs.Partials.{cell_final}
use Rattle.route_pricing.proofs.WayBack.{home_reached, traced_tour}
use Rattle.route_pricing.proofs.retracing.retrace.Goals as goal

pub trace-requires-clause-reached : goal.trace-requires-clause-reached
trace-requires-clause-reached c =
    let g = c.args.grid.now in
    let r = c.requires in
    let e = c.args.end.now in
    home_reached g r.grid e.load e.column e.home (slice_index c.args.cells.now (cell_place g e.load e.column)) r.end.load_in r.end.home
    (cell_final g r.grid c.args.cells.now e.load e.column (cell_place g e.load e.column) r.filled r.end.load_in r.end.column_in refl)

pub returns : goal.returns
returns c =
    let g = c.args.grid.now in
    let r = c.requires in
    let e = c.args.end.now in
    let own = slice_index c.args.cells.now (cell_place g e.load e.column) in
    let cell = cell_final g r.grid c.args.cells.now e.load e.column (cell_place g e.load e.column) r.filled r.end.load_in r.end.column_in refl in
    let items : c.push.new.self.items ≡ column_task e.column ∷ [] =
    c.in_ok-push.ensures.items ∙ ap (λ xs. xs ++ c.task.result ∷ []) c.new-tasks.ensures.items ∙ ap (λ (t : Task). t ∷ []) c.task.ensures.value in
    let traced = subst (λ xs. IsTraced g (column_task e.column) e.load own false xs c.trace.new.tasks.items) items c.in_ok-trace.ensures in
    subst (IsRetraced g e.load e.home) (sym c.reverse.ensures.items) (traced_tour g r.grid e.load e.column e.home own c.trace.new.tasks.items r.end.home r.least cell traced)
