use Rattle.std.proofs.Common.{◌≡◌, ◌∙◌, arith}
use Rattle.route_pricing.specs.Partial.{surcharge_at, column_task}
use Rattle.route_pricing.proofs.Succeeding.{pair_within, raised_is, surcharge_least, t_in, u_in}
use Rattle.route_pricing.proofs.grid.Grid.surcharge_above.Goals as goal

pub index-requires : goal.index-requires
index-requires c = omega (arith, c.requires.grid.raised_long, pair_within c.args.self.now c.requires.grid c.args.next.now c.requires.next c.args.before c.requires.before)

pub overflow_sub-result : goal.overflow_sub-result
overflow_sub-result c =
    let g = c.args.self.now in
    let r = c.requires in
    let x = c.args.next.now in
    let value : c.from.result ≡ surcharge_at g (column_task c.args.before).edge (column_task x.column).edge =
    c.from.ensures ∙ raised_is g r.grid x r.next c.args.before r.before c.index.result.now c.in_default.not-Free c.index.ensures in
    omega (arith, value, c.least_raised.ensures, surcharge_least g r.grid x r.next c.args.before r.before)

pub returns-in_default : goal.returns-in_default
returns-in_default c =
    let g = c.args.self.now in
    let r = c.requires in
    let x = c.args.next.now in
    let u = column_task c.args.before in
    let t = column_task x.column in
    let value : c.from.result ≡ surcharge_at g u.edge t.edge = c.from.ensures ∙ raised_is g r.grid x r.next c.args.before r.before c.index.result.now c.in_default.not-Free c.index.ensures in
    let least = surcharge_least g r.grid x r.next c.args.before r.before in
    let small = r.grid.small_surcharges u.edge t.edge (u_in g r.grid x r.next c.args.before r.before) (t_in g r.grid x r.next c.args.before r.before) in
    record { value = omega (arith, value, least, c.least_raised.ensures); small = omega (arith, value, small) }
