use Rattle.std.proofs.Common.{◌-◌}
use Rattle.packing_trees.specs.Tables.{AreShares, AreSmallShares}
use Rattle.packing_trees.proofs.shares.shares_of.Given as goal

abbrev pub invariant-loop-edge : goal.invariant-loop-edge
invariant-loop-edge l = record {
  all : AreShares l.capacity l.s l.labels l.weights (l.edge - 1) l.shares;
  small : AreSmallShares (l.edge - 1) l.shares;
}
