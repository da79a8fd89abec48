use Rattle.std.proofs.Common.{ℕ, ◌≤◌, ◌<◌}
use Rattle.cut_pool.specs.Pools.{shore_at}
use Rattle.cut_pool.specs.Shores.{IsShore}
use Rattle.carp_engine.proofs.certifying.look_at_shores.Given as goal

abbrev pub invariant-loop-number : goal.invariant-loop-number
invariant-loop-number l = (k : ℕ) → 1 ≤ k → k < l.number → IsShore (shore_at l.pool k)
