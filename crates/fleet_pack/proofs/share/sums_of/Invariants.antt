use Rattle.std.proofs.Common.{◌≡◌, ◌+◌, length}
use Rattle.fleet_pack.proofs.share.sums_of.Given as goal

abbrev pub invariant-loop-weight : goal.invariant-loop-weight
invariant-loop-weight l = length l.sums.items ≡ l.weight-index + 1
