use Rattle.ruin_recreate.proofs.Rows.{demands_more}
use Rattle.ruin_recreate.proofs.tables.demands_of.Goals as goal

pub loop-x-preserved : goal.loop-x-preserved
loop-x-preserved c =
    demands_more c.args.inst.now c.loop-x.x c.demand.result c.loop-x.demands.items c.push.new.self.items c.loop-x.invariant c.demand.ensures.value c.demand.ensures.light c.in_ok-push.ensures.items
