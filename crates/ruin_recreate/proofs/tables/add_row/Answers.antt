use Rattle.ruin_recreate.proofs.Rows.{links_more}
use Rattle.ruin_recreate.proofs.tables.add_row.Goals as goal

pub loop-y-preserved : goal.loop-y-preserved
loop-y-preserved c =
    links_more c.args.inst.now c.args.x c.loop-y.y c.args.links.now.items c.loop-y.links.items c.push.new.self.items c.link.result c.loop-y.invariant c.link.ensures.least c.link.ensures.small c.in_ok-push.ensures.items
