use Rattle.std.proofs.Common.{All, ◌-◌}
use Rattle.cut_pool.specs.Shores.{Belongs}
use Rattle.dual_master.specs.Singles.{HasSingles}
use Rattle.dual_master.proofs.singles.place_singles.Given as goal

-- the vertices so far were tried
abbrev pub invariant-loop-v : goal.invariant-loop-v
invariant-loop-v l = record {
  singles : HasSingles l.inst l.fn.pool (l.v - 1) l.pool;
  belong : All (Belongs l.inst) l.pool;
}
