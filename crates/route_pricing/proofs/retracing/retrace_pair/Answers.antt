use Rattle.std.proofs.Common.{◌≡◌, ◌+◌, ◌∷◌, ◌++◌, [], true, false, arith, ap, ◌∙◌, subst, sym, refl, slice_index, reverse}
use Rattle.carp_base.specs.declared.edge.Task.{Task}
use Rattle.route_pricing.specs.Partial.{column_task, cell_place}
use Rattle.route_pricing.specs.Retracing.{IsTraced}
use Rattle.route_pricing.specs.Through.{IsPairTour}
use Rattle.route_pricing.proofs.Partials.{cell_final}
use Rattle.route_pricing.proofs.WayBack.{traced_pair}
use Rattle.route_pricing.proofs.retracing.retrace_pair.Goals as goal

pub returns : goal.returns
returns c =
    let g = c.args.grid.now in
    let r = c.requires in
    let p = c.args.pair.now in
    let column = c.args.column in
    let cells = c.args.cells.now in
    let of = r.pair.2 in
    let v = slice_index cells (cell_place g p.first column) in
    let w = slice_index cells (cell_place g p.back (column + 1)) in
    let cell = cell_final g r.grid cells p.first column (cell_place g p.first column) r.filled of.first_in (omega (arith, r.column)) refl in
    let cell' = cell_final g r.grid cells p.back (column + 1) (cell_place g p.back (column + 1)) r.filled of.back_in r.column refl in
    let first = c.trace.new.tasks.items in
    let back = subst (λ xs. IsTraced g (column_task (column + 1)) p.back w true xs first) c.new-tasks.ensures.items c.in_ok-trace.ensures in
    let items : c.push.new.self.items ≡ reverse first ++ column_task column ∷ [] =
    c.in_ok-push.ensures.items ∙ ap (λ xs. xs ++ c.task.result ∷ []) c.reverse.ensures.items ∙ ap (λ (t : Task). reverse first ++ t ∷ []) c.task.ensures.value in
    let traced = subst (λ xs. IsTraced g (column_task column) p.first v false xs c.trace-2.new.tasks.items) items c.in_ok-trace-2.ensures in
    subst (IsPairTour g (column_task column) p) (sym c.reverse-2.ensures.items)
    (traced_pair g r.grid column p.first p.back v w p first c.trace-2.new.tasks.items refl refl r.turned cell cell' back traced)
