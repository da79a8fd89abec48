use Rattle.std.proofs.Common.{rules, ap, arith, ◌*◌}
use Rattle.capacity_cuts.proofs.Found.{most, none}
use Rattle.capacity_cuts.proofs.fractional.find_side.Goals as goal

pub returns-then-flow-unit-clause-most : goal.returns-then-flow-unit-clause-most
returns-then-flow-unit-clause-most c =
    most c.equal_sets_have_one_border.ensures c.equal_is_best.ensures c.args.inst.now c.args.unit c.args.x.now _ _ _ c.in_ok-flow.flow.value c.in_ok-flow.flow.flows.items c.in_ok-flow.flow.side.items
    c.depot.ensures.valid (search rules) (search rules) c.depot.ensures.value c.in_ok-flow.ensures.flow c.in_ok-flow.ensures.side c.in_ok-flow.ensures.cut

pub returns-clause-most : goal.returns-clause-most
returns-clause-most c =
    none c.equal_sets_have_one_border.ensures c.equal_is_best.ensures c.args.inst.now c.args.unit c.args.x.now _ _ _ c.in_ok-flow.flow.value c.in_ok-flow.flow.flows.items c.in_ok-flow.flow.side.items
    c.depot.ensures.valid (search rules) (search rules) c.depot.ensures.value c.in_ok-flow.ensures.flow c.in_ok-flow.ensures.side c.in_ok-flow.ensures.cut
    (omega (arith, c.if-flow-unit.false, ap (λ n. 2 * (c.args.unit * n)) c.total_demand.ensures))
