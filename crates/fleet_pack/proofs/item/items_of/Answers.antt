use Rattle.std.proofs.Common.{arith, refl, ap, ◌∙◌}
use Rattle.fleet_pack.proofs.Falling.{numbered_more}
use Rattle.fleet_pack.proofs.item.items_of.Goals as goal

pub loop-edge-preserved : goal.loop-edge-preserved
loop-edge-preserved c =
    c.in_ok-push.ensures.items
    ∙ numbered_more c.args.inst.now c.loop-edge.edge c.loop-edge.items.items _ (omega arith) c.loop-edge.invariant refl (ap (λ x. x.demand) c.edge-demand.ensures)
