use Rattle.std.proofs.Common.{◌≡◌, ◌++◌, length, reverse}
use Rattle.fleet_pack.specs.States.{share_nodes}
use Rattle.fleet_pack.proofs.ending.put_shares.Given as goal

abbrev pub invariant-loop-share : goal.invariant-loop-share
invariant-loop-share l = l.nodes.items ++ share_nodes (reverse l.shares.items) ≡ l.fn.nodes.items ++ share_nodes (reverse l.fn.shares.items)

abbrev pub decreases-loop-share : goal.decreases-loop-share
decreases-loop-share l = length l.shares.items
