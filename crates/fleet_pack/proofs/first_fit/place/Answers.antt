use Rattle.std.proofs.Common.{◌∙◌, subst, get_or}
use Rattle.fleet_pack.specs.Groups.{IsPut}
use Rattle.fleet_pack.proofs.Placing.{placed_more, at_item, loads_step}
use Rattle.fleet_pack.proofs.first_fit.place.Goals as goal

pub loop-item-preserved : goal.loop-item-preserved
loop-item-preserved c =
    let was = at_item c.args.inst.now c.args.items.now c.loop-item.item-index (record { edge = 0; demand = 0 }) c.loop-item.groups c.loop-item.loads.items c.loop-item-test.true c.loop-item.invariant.placed in
    let put : IsPut c.args.inst.now.capacity (get_or c.args.items.now c.loop-item.item-index (record { edge = 0; demand = 0 })).demand c.loop-item.loads.items c.put.new.loads.items c.in_ok-place.place =
    subst (λ q. IsPut q (get_or c.args.items.now c.loop-item.item-index (record { edge = 0; demand = 0 })).demand c.loop-item.loads.items c.put.new.loads.items c.in_ok-place.place) c.capacity-capacity.ensures.value c.in_ok-place.ensures in record {
      placed = placed_more c.args.inst.now _ _ _ _ _ _ was put;
      loads = loads_step c.args.inst.now.capacity c.args.items.now c.loop-item.item-index _ c.loop-item.loads.items c.put.new.loads.items c.in_ok-place.place c.loop-item-test.true put ∙ c.loop-item.invariant.loads;
    }
