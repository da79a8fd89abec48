use Rattle.std.proofs.Common.{◌≡◌, ◌-◌, take}
use Rattle.cert_transfer.proofs.copies.copy_pool.Given as goal

abbrev pub invariant-loop-number : goal.invariant-loop-number
invariant-loop-number l = l.copy ≡ take (l.number - 1) l.pool
