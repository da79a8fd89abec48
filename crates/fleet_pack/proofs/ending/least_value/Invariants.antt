use Rattle.std.proofs.Common.{take}
use Rattle.fleet_pack.specs.States.{IsLeastValue}
use Rattle.fleet_pack.proofs.ending.least_value.Given as goal

abbrev pub invariant-loop-share : goal.invariant-loop-share
invariant-loop-share l = IsLeastValue l.count (take l.share-index l.shares) l.least
