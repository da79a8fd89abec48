use Rattle.std.proofs.Common.{rules, ◌<◌}
use Rattle.shore_prices.proofs.Levels.{service_small}
use Rattle.shore_prices.proofs.proposal.service_prices.Goals as goal

pub service_price-requires : goal.service_price-requires
service_price-requires c =
    let inside : c.loop-edge.edge-index < c.args.inst.now.required = search rules in
    rw (c.required.ensures.value, c.edges.ensures.value) (service_small c.args.inst.now c.edges.ensures.valid c.loop-edge.edge-index inside)
