use Rattle.std.proofs.Common.{arith, ◌∙◌, sym}
use Rattle.route_pricing.specs.Partial.{column_task}
use Rattle.route_pricing.proofs.PartialTours.{column_required}
use Rattle.route_pricing.proofs.Passing.{best_none, first_required, second_required, first_small_label, second_below_small, free_first, free_none, free_second}
use Rattle.route_pricing.proofs.grid.Grid.best_free.Goals as goal

pub returns-then-x : goal.returns-then-x
returns-then-x c =
    let g = c.args.self.now in
    let r = c.requires in
    best_none g r.grid c.args.load c.args.layer.now r.layer (column_task c.args.column) (column_required g r.grid c.args.column r.column) c.start.result c.start.ensures.value (omega (arith, c.if-x.true))

pub may_follow_edge-requires-clause-edge : goal.may_follow_edge-requires-clause-edge
may_follow_edge-requires-clause-edge c =
    let g = c.args.self.now in
    let r = c.requires in
    first_required g r.grid c.args.load c.args.layer.now r.layer (column_task c.args.column) (column_required g r.grid c.args.column r.column) c.start.result c.start.ensures.value c.if-x.false

pub overflow_add-result : goal.overflow_add-result
overflow_add-result c =
    let g = c.args.self.now in
    let r = c.requires in
    omega (arith, first_small_label g r.grid c.args.load c.args.layer.now r.layer (column_task c.args.column) (column_required g r.grid c.args.column r.column) c.start.result c.start.ensures.value r.load c.if-x.false)

pub returns-then-may_follow_edge : goal.returns-then-may_follow_edge
returns-then-may_follow_edge c =
    let g = c.args.self.now in
    let r = c.requires in
    free_first g r.grid c.args.load c.args.layer.now r.layer (column_task c.args.column) (column_required g r.grid c.args.column r.column) c.start.result c.start.ensures.value r.free c.if-x.false (sym c.may_follow_edge.ensures ∙ c.if-may_follow_edge.true)

pub returns-then-x-2 : goal.returns-then-x-2
returns-then-x-2 c =
    let g = c.args.self.now in
    let r = c.requires in
    free_none g r.grid c.args.load c.args.layer.now r.layer (column_task c.args.column) (column_required g r.grid c.args.column r.column) c.start.result c.start.ensures.value r.free c.if-x.false (sym c.may_follow_edge.ensures ∙ c.if-may_follow_edge.false) c.if-x-2.true

pub may_follow_edge-requires-2-clause-edge : goal.may_follow_edge-requires-2-clause-edge
may_follow_edge-requires-2-clause-edge c =
    let g = c.args.self.now in
    let r = c.requires in
    second_required g r.grid c.args.load c.args.layer.now r.layer (column_task c.args.column) (column_required g r.grid c.args.column r.column) c.start.result c.start.ensures.value c.if-x-2.false

pub overflow_add-result-then-may_follow_edge-2 : goal.overflow_add-result-then-may_follow_edge-2
overflow_add-result-then-may_follow_edge-2 c =
    let g = c.args.self.now in
    let r = c.requires in
    omega (arith, second_below_small g r.grid c.args.load c.args.layer.now r.layer (column_task c.args.column) (column_required g r.grid c.args.column r.column) c.start.result c.start.ensures.value r.load c.if-x-2.false)

pub returns-then-may_follow_edge-2 : goal.returns-then-may_follow_edge-2
returns-then-may_follow_edge-2 c =
    let g = c.args.self.now in
    let r = c.requires in
    free_second g r.grid c.args.load c.args.layer.now r.layer (column_task c.args.column) (column_required g r.grid c.args.column r.column) c.start.result c.start.ensures.value r.free (omega (arith, second_below_small g r.grid c.args.load c.args.layer.now r.layer (column_task c.args.column) (column_required g r.grid c.args.column r.column) c.start.result c.start.ensures.value r.load c.if-x-2.false)) (sym c.may_follow_edge.ensures ∙ c.if-may_follow_edge.false) (sym c.may_follow_edge-2.ensures ∙ c.if-may_follow_edge-2.true)
