use Rattle.std.proofs.Common.{◌≡◌, ◌≤◌, take}
use Rattle.fleet_pack.specs.States.{closed_count}
use Rattle.fleet_pack.proofs.search.closed_leaves.Given as goal

abbrev pub invariant-loop-share : goal.invariant-loop-share
invariant-loop-share l = record {
  closed : l.closed ≡ closed_count l.count (take l.share-index l.shares);
  most : l.closed ≤ l.share-index;
}
