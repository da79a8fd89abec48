use Rattle.std.proofs.Common.{◌+◌, ◌-◌, ◌*◌, ◌<◌, arith, ap, ◌∙◌, slice_index_or}
use Rattle.route_pricing.specs.Partial.{no_value, column_task}
use Rattle.route_pricing.proofs.PartialTours.{cell_small}
use Rattle.route_pricing.proofs.Partials.{cell_final}
use Rattle.route_pricing.proofs.Weighing.{weight_none, weight_some}
use Rattle.route_pricing.proofs.through.weight.Goals as goal

pub returns-then-value : goal.returns-then-value
returns-then-value c =
    let g = c.args.grid.now in
    let r = c.requires in
    let cell = cell_final g r.grid c.args.cells.now c.args.load c.args.column c.place.result r.filled r.load r.column c.place.ensures in
    weight_none g r.grid c.args.scale.now.value c.args.scale.now.left r.value r.left c.args.load (column_task c.args.column) _ cell c.if-value.true r.load

pub scaled-requires-clause-value : goal.scaled-requires-clause-value
scaled-requires-clause-value c =
    let g = c.args.grid.now in
    let r = c.requires in
    let cell = cell_final g r.grid c.args.cells.now c.args.load c.args.column c.place.result r.filled r.load r.column c.place.ensures in
    let below : slice_index_or c.args.cells.now c.place.result 0 < no_value = omega (arith, c.if-value.false, (c.type_inv.cells c.place.result).fits) in
    omega (arith, cell_small g r.grid c.args.load (column_task c.args.column) _ cell r.load below)

pub returns : goal.returns
returns c =
    let g = c.args.grid.now in
    let r = c.requires in
    let cell = cell_final g r.grid c.args.cells.now c.args.load c.args.column c.place.result r.filled r.load r.column c.place.ensures in
    let below : slice_index_or c.args.cells.now c.place.result 0 < no_value = omega (arith, c.if-value.false, (c.type_inv.cells c.place.result).fits) in
    weight_some g r.grid c.args.scale.now.value c.args.scale.now.left r.value r.left c.args.load (column_task c.args.column) _ c.scaled.result cell below
    (c.scaled.ensures.value ∙ ap (λ q. c.args.scale.now.value * slice_index_or c.args.cells.now c.place.result 0 + c.args.scale.now.left * (q - c.args.load)) c.capacity.ensures.value) c.scaled.ensures.small
