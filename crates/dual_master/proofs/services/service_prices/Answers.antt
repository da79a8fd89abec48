use Rattle.std.proofs.Common.{rules, ◌<◌}
use Rattle.dual_master.proofs.Sums.{place_small}
use Rattle.dual_master.proofs.services.service_prices.Goals as goal

pub service_price-requires : goal.service_price-requires
service_price-requires c =
    let inside : c.loop-edge.edge-index < c.args.inst.now.required = search rules in
    rw (c.required.ensures.value, c.edges.ensures.value) (place_small c.args.inst.now c.args.unit c.args.share c.edges.ensures.valid c.requires c.loop-edge.edge-index inside)
