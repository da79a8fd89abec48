use Rattle.std.proofs.Common.{arith, ap, ◌∙◌}
use Rattle.road_network.specs.Incidence.{far_end}
use Rattle.edge_components.proofs.Searching.{far_vertex, parts_read, go_over}
use Rattle.edge_components.proofs.labelling.label_over.Goals as goal

pub label-requires : goal.label-requires
label-requires c =
    let p = c.args.inst.now in
    let vertex = far_vertex p c.args.x.now c.args.least c.args.v c.args.e c.requires.valid c.requires.number c.requires.there in
    omega (arith, c.far_end.ensures ∙ ap (far_end c.args.v) c.edge.ensures, vertex.in_range, c.requires.search.long)

pub returns-in_ok-label : goal.returns-in_ok-label
returns-in_ok-label c =
    let p = c.args.inst.now in
    let is = c.far_end.ensures ∙ ap (far_end c.args.v) c.edge.ensures in
    let after = rw is at c.in_ok-label.ensures in
    go_over p c.args.x.now c.args.least c.args.root c.args.v c.args.e c.args.labels.now c.args.waiting.now.items c.label.new.labels c.label.new.waiting.items
    c.requires.valid c.requires.search c.requires.root c.requires.vertex c.requires.labelled c.requires.number c.requires.there
    (omega (arith, c.if-least-x.true, parts_read p c.args.x.now c.args.least c.args.e c.requires.number.from_one)) after.labels after.waiting
