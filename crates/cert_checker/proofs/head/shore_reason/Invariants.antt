use Rattle.std.proofs.Common.{ℕ, ◌≤◌, ◌<◌}
use Rattle.cut_pool.specs.Pools.{shore_at}
use Rattle.cut_pool.specs.Shores.{Belongs}
use Rattle.cert_checker.proofs.head.shore_reason.Given as goal

abbrev pub invariant-loop-number : goal.invariant-loop-number
invariant-loop-number l = (k : ℕ) → 1 ≤ k → k < l.number → Belongs l.claim.inst.now (shore_at l.claim.shores.now k)
