use Rattle.fleet_pack.proofs.Falling.{few_items}
use Rattle.fleet_pack.proofs.filling.filled.Goals as goal

pub loop-group-init : goal.loop-group-init
loop-group-init c = few_items c.args.inst.now c.in_ok-items.items.items c.capacity-capacity.ensures.valid c.in_ok-items.ensures
