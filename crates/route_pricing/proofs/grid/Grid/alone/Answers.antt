use Rattle.std.proofs.Common.{arith, ap, ◌∙◌}
use Rattle.route_pricing.specs.Partial.{column_task, between}
use Rattle.route_pricing.proofs.PartialTours.{first_small, adds_small, column_required}
use Rattle.route_pricing.proofs.grid.Grid.alone.Goals as goal

pub overflow_add-result-2 : goal.overflow_add-result-2
overflow_add-result-2 c =
    let g = c.args.self.now in
    let t = column_task c.args.column in
    let required = column_required g c.requires.grid c.args.column c.requires.column in
    let way = c.between-way.ensures ∙ ap (λ a. between g a c.start.result) c.depot.ensures.value ∙ ap (between g g.inst.depot) c.start.ensures.value in
    omega (arith, way, c.adds.ensures.value, first_small g c.requires.grid t required, adds_small g c.requires.grid t required)
