use Rattle.std.proofs.Common.{All}
use Rattle.cut_pool.specs.Pools.{IsGrown}
use Rattle.cut_pool.specs.Shores.{Belongs}
use Rattle.leaf_programs.proofs.cuts.add_cuts.Given as goal

abbrev pub invariant-loop-cut : goal.invariant-loop-cut
invariant-loop-cut l = record {
  grown : IsGrown l.fn.pool l.pool;
  belong : All (Belongs l.inst) l.pool;
}
