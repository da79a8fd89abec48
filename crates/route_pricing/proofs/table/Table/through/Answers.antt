use Rattle.std.proofs.Common.{rules, ◌≤◌, arith, ap, ◌∙◌, subst, sym, pos, ◌-ℤ◌}
use Rattle.std.proofs.lemmas.Int.{to_z-of_z}
use mir.Syntax.{w128}
use mir.Val.{SFits, to_z, of_z}
use Rattle.carp_base.specs.declared.edge.Task.{Task}
use Rattle.carp_base.specs.Problem.{IsRequired}
use Rattle.route_pricing.specs.Partial.{column_task}
use Rattle.route_pricing.specs.Values.{IsLeastThrough}
use Rattle.route_pricing.specs.Through.{IsLeastPair, overweight_of}
use Rattle.route_pricing.proofs.Crossing.{pair_reached, least_through}
use Rattle.route_pricing.proofs.table.Table.through.Goals as goal

pub difference-requires-clause-a : goal.difference-requires-clause-a
difference-requires-clause-a c =
    let g = c.args.self.now.grid in
    let t = column_task c.column-column.result in
    let scale = c.scale_of-scale in
    let edge_is = ap (λ (s : Task). s.edge) c.column-column.ensures.task in
    let t_in = subst (IsRequired g.inst) (sym edge_is) c.requires.edge in
    let few : scale.result.value ≤ 30000 = omega (arith, scale.ensures.value, c.requires.rate.few) in
    omega (arith, c.least_pair-pair.ensures.small, pair_reached g c.requires.ready.grid t t_in scale.result.value scale.result.left few scale.ensures.small c.least_pair-pair.result c.least_pair-pair.ensures)

pub returns : goal.returns
returns c = λ x filled.
    let g = c.args.self.now.grid in
    let r = c.args.rate in
    let t = column_task c.column-column.result in
    let scale = c.scale_of-scale in
    let edge_is = ap (λ (s : Task). s.edge) c.column-column.ensures.task in
    let t_in = subst (IsRequired g.inst) (sym edge_is) c.requires.edge in
    let pair = subst (λ b. IsLeastPair g b scale.result.left t c.least_pair-pair.result) scale.ensures.value c.least_pair-pair.ensures in
    let fits : SFits w128 c.difference.result = search rules in
    let over = ap (λ b. overweight_of g b scale.result.left t) scale.ensures.value in
    let weight = to_z-of_z w128 c.difference.result fits ∙ c.difference.ensures ∙ ap (λ n. pos c.least_pair-pair.result.weight -ℤ pos n) (c.overweight.ensures.value ∙ over) in
    subst (λ e. IsLeastThrough x e r (to_z w128 (of_z w128 c.difference.result))) edge_is
    (least_through x g filled.of t t_in r scale.result.left c.requires.rate.few scale.ensures.small scale.ensures.left c.least_pair-pair.result pair _ weight)
