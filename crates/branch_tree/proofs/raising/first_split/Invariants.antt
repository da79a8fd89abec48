use Rattle.cut_pool.specs.Pools.{IsGrown}
use Rattle.branch_rules.specs.Limits.{AreShoresIn}
use Rattle.leaf_adviser.specs.Leaves.{AreOf}
use Rattle.branch_tree.proofs.raising.first_split.Given as goal

abbrev pub invariant-loop-adviser : goal.invariant-loop-adviser
invariant-loop-adviser g l = record {
  grown : IsGrown l.fn.pool l.pool;
  tools : AreOf l.leaf.inst.now l.table l.pool;
  shores : AreShoresIn l.leaf.inst.now l.pool l.leaf.branch.now;
}
