use Rattle.std.proofs.Common.{◌≡◌, ◌*◌, ◌<◌, ◌∙◌, arith, subst, slice_index_or}
use Rattle.std.proofs.lemmas.List.{length-set}
use Rattle.route_pricing.specs.Legs.{IsShortRow}
use Rattle.route_pricing.proofs.PartialTours.{cell_read}
use Rattle.route_pricing.proofs.Shortening.{short_row_more}
use Rattle.route_pricing.proofs.grid.Grid.write_row.Goals as goal

pub loop-column-preserved : goal.loop-column-preserved
loop-column-preserved c =
    let g = c.args.self.now in
    let r = c.requires in
    let loop = c.loop-column.invariant in
    let column = c.loop-column.column in
    let value = slice_index_or c.args.cells.now c.place.result 0 in
    let below : column < 2 * g.inst.required = omega (arith, c.loop-column-test.true, c.width-column-end.ensures) in
    let cell = cell_read g r.grid c.args.cells.now c.args.load 0 column c.place.result r.filled r.load below c.place.ensures in
    record {
      long = length-set _ _ _ ∙ loop.long;
      row = short_row_more g r.grid c.args.load c.least_value-least.result column c.loop-column.row value c.short_value.result r.load (omega (arith, loop.long, below)) loop.row cell c.short_value.ensures;
    }

pub returns-clause-row : goal.returns-clause-row
returns-clause-row c =
    let g = c.args.self.now in
    let all : c.loop-column.column ≡ 2 * g.inst.required = omega (arith, c.width-column-end.ensures, c.loop-column.auto.column-end, c.loop-column-test.false) in
    subst (λ n. IsShortRow g c.args.load c.least_value-least.result n c.loop-column.row) all c.loop-column.invariant.row
