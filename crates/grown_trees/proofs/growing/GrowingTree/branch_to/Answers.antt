use Rattle.std.proofs.Common.{ap, arith, List, length}
use Rattle.grown_trees.specs.Blocks.{joined}
use Rattle.grown_trees.specs.declared.growing.GrowingNode.{GrowingNode}
use Rattle.grown_trees.proofs.growing.GrowingTree.branch_to.Goals as goal

pub branch_at-requires-clause-few : goal.branch_at-requires-clause-few
branch_at-requires-clause-few c = omega (arith, ap (λ (bs : List (List GrowingNode)). length (joined bs)) c.deref.ensures.value, c.self.invariant.0, c.self.invariant.1)
