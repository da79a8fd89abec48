use Rattle.dual_master.proofs.Packed.{costs_small, set_fine}
use Rattle.dual_master.proofs.placing.set_of_shores.Goals as goal

pub service_prices-requires : goal.service_prices-requires
service_prices-requires c = costs_small c.args.inst.now c.args.unit c.validity.ensures c.requires.unit_in

pub new-requires : goal.new-requires
new-requires c =
    rw (c.deref.ensures.value, c.deref-2.ensures.value, c.in_ok-services.ensures, c.in_ok-weights.ensures.value)
    (set_fine c.args.inst.now c.args.unit c.args.shores.items c.validity.ensures c.requires.some_unit c.requires.unit_in c.requires.placeable)
