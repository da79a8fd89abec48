use Rattle.std.proofs.Common.{◌≡◌, [], drop}
use Rattle.fleet_pack.specs.FirstFit.{loads_after}
use Rattle.fleet_pack.specs.Groups.{IsPlaced, demands_of}
use Rattle.fleet_pack.proofs.first_fit.place.Given as goal

abbrev pub invariant-loop-item : goal.invariant-loop-item
invariant-loop-item l = record {
  placed : IsPlaced l.inst (drop l.item-index l.items) l.groups l.loads.items;
  loads : loads_after l.inst.capacity (demands_of (drop l.item-index l.items)) l.loads.items ≡ loads_after l.inst.capacity (demands_of l.items) [];
}
