use Rattle.std.proofs.Common.{◌↔◌, IfOk, IsTrue, subst, sym}
use Rattle.branch_rules.specs.declared.node.Node.{Node}
use Rattle.tree_transfer.specs.Carrying.{GivesWay}
use Rattle.tree_transfer.proofs.carrying.gives_way.Goals as goal

pub returns-in-Pair : goal.returns-in-Pair
returns-in-Pair c = subst (λ (node : Node). IfOk c.excluded.result (λ gives. IsTrue gives ↔ GivesWay c.args.inst.now c.args.pool.now c.args.branch.now node)) (sym c.in-Pair.is) c.excluded.ensures
