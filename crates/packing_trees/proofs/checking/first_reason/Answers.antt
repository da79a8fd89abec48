use Rattle.packing_trees.proofs.Ordering.{by_nodes, is_packing, is_tree}
use Rattle.packing_trees.proofs.Passing.{if_ok_more}
use Rattle.packing_trees.proofs.checking.first_reason.Goals as goal

pub returns : goal.returns
returns c =
    let p = c.args.inst.now in
    let packing = is_packing p c.args.groups.now c.args.count c.in_ok-reason.reason c.if-is_some.ensures c.in_ok-reason.ensures in
    let tree = is_tree p c.args.nodes.now c.shape_reason-reason.result c.if-is_some-2.ensures c.shape_reason-reason.ensures in
    if_ok_more c.nodes_reason.result (λ reason says. by_nodes p c.args.groups.now c.args.count c.args.bound c.args.nodes.now reason packing tree says) c.nodes_reason.ensures
