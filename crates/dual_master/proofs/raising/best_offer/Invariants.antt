use Rattle.cut_pool.specs.Pools.{IsGrown}
use Rattle.leaf_adviser.specs.Leaves.{AreOf}
use Rattle.dual_master.specs.Raising.{IsStanding}
use Rattle.dual_master.proofs.raising.best_offer.Given as goal

abbrev pub invariant-loop-adviser : goal.invariant-loop-adviser
invariant-loop-adviser g l = record {
  standing : IsStanding l.leaf.inst.now l.leaf.branch.now l.pool l.start l.best;
  grown : IsGrown l.fn.pool l.pool;
  tools : AreOf l.leaf.inst.now l.table l.pool;
}
