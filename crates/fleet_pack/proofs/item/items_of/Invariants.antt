use Rattle.std.proofs.Common.{◌≡◌, ◌-◌}
use Rattle.fleet_pack.specs.Groups.{numbered}
use Rattle.fleet_pack.proofs.item.items_of.Given as goal

abbrev pub invariant-loop-edge : goal.invariant-loop-edge
invariant-loop-edge l = l.items.items ≡ numbered l.inst (l.edge - 1)
