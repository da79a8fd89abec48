use Rattle.std.proofs.Common.{arith}
use Rattle.route_pricing.proofs.Succeeding.{end_is, way_within, way_fits, way_is, way_small}
use Rattle.route_pricing.proofs.grid.Grid.leg_above.Goals as goal

pub overflow_add-next : goal.overflow_add-next
overflow_add-next c =
    let g = c.args.self.now in
    let r = c.requires in
    let end = end_is g r.grid c.args.next.now r.next c.args.before r.before c.index.result.now c.index.ensures in
    omega (arith, way_fits g r.grid c.args.next.now r.next c.args.before r.before c.index.result.now end)

pub index-way-requires : goal.index-way-requires
index-way-requires c =
    let g = c.args.self.now in
    let r = c.requires in
    let end = end_is g r.grid c.args.next.now r.next c.args.before r.before c.index.result.now c.index.ensures in
    omega (arith, r.grid.dist_long, way_within g r.grid c.args.next.now r.next c.args.before r.before c.index.result.now end)

pub overflow_add-result : goal.overflow_add-result
overflow_add-result c =
    let g = c.args.self.now in
    let r = c.requires in
    let end = end_is g r.grid c.args.next.now r.next c.args.before r.before c.index.result.now c.index.ensures in
    let way = way_is g r.grid c.args.next.now r.next c.args.before r.before c.index.result.now c.index-way.result.now end c.index-way.ensures in
    omega (arith, way, way_small g r.grid c.args.next.now r.next c.args.before r.before, c.surcharge_above.ensures.small)

pub returns-clause-value : goal.returns-clause-value
returns-clause-value c =
    let g = c.args.self.now in
    let r = c.requires in
    let end = end_is g r.grid c.args.next.now r.next c.args.before r.before c.index.result.now c.index.ensures in
    let way = way_is g r.grid c.args.next.now r.next c.args.before r.before c.index.result.now c.index-way.result.now end c.index-way.ensures in
    omega (arith, way, c.surcharge_above.ensures.value)

pub returns-clause-small : goal.returns-clause-small
returns-clause-small c =
    let g = c.args.self.now in
    let r = c.requires in
    let end = end_is g r.grid c.args.next.now r.next c.args.before r.before c.index.result.now c.index.ensures in
    let way = way_is g r.grid c.args.next.now r.next c.args.before r.before c.index.result.now c.index-way.result.now end c.index-way.ensures in
    omega (arith, way, way_small g r.grid c.args.next.now r.next c.args.before r.before, c.surcharge_above.ensures.small)
