use Rattle.std.proofs.Common.{◌≤◌, length}
use Rattle.fleet_pack.proofs.filling.filled.Given as goal

abbrev pub invariant-loop-group : goal.invariant-loop-group
invariant-loop-group l = length l.items.items ≤ 600
