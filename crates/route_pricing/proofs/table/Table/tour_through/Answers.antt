use Rattle.std.proofs.Common.{◌≤◌, arith, ap, subst, sym}
use Rattle.carp_base.specs.declared.edge.Task.{Task}
use Rattle.carp_base.specs.Problem.{IsRequired}
use Rattle.route_pricing.specs.Partial.{column_task}
use Rattle.route_pricing.specs.Values.{AttainsThrough}
use Rattle.route_pricing.specs.Through.{IsLeastPair}
use Rattle.route_pricing.proofs.Crossing.{cells_of, attains_through}
use Rattle.route_pricing.proofs.table.Table.tour_through.Goals as goal

pub retrace_pair-requires-clause-pair : goal.retrace_pair-requires-clause-pair
retrace_pair-requires-clause-pair c =
    let g = c.args.self.now.grid in
    let t = column_task c.column-column.result in
    let scale = c.scale_of-scale in
    let edge_is = ap (λ (s : Task). s.edge) c.column-column.ensures.task in
    let t_in = subst (IsRequired g.inst) (sym edge_is) c.requires.edge in
    let few : scale.result.value ≤ 30000 = omega (arith, scale.ensures.value, c.requires.rate.few) in
    (scale.result.value, scale.result.left, cells_of g c.requires.ready.grid t t_in scale.result.value scale.result.left few scale.ensures.small c.least_pair-pair.result c.least_pair-pair.ensures)

pub returns : goal.returns
returns c = λ x filled.
    let g = c.args.self.now.grid in
    let r = c.args.rate in
    let t = column_task c.column-column.result in
    let scale = c.scale_of-scale in
    let edge_is = ap (λ (s : Task). s.edge) c.column-column.ensures.task in
    let t_in = subst (IsRequired g.inst) (sym edge_is) c.requires.edge in
    let pair = subst (λ b. IsLeastPair g b scale.result.left t c.least_pair-pair.result) scale.ensures.value c.least_pair-pair.ensures in
    subst (λ e. AttainsThrough x e r c.in_ok-tasks.tasks.items) edge_is
    (attains_through x g filled.of t t_in r scale.result.left c.requires.rate.few scale.ensures.small scale.ensures.left c.least_pair-pair.result pair c.in_ok-tasks.tasks.items c.in_ok-tasks.ensures)
