use Rattle.std.proofs.Common.{◌≤◌, length}
use Rattle.fleet_pack.proofs.filling.fill.Given as goal

abbrev pub invariant-loop-place : goal.invariant-loop-place
invariant-loop-place l = length l.rest.items ≤ l.place
