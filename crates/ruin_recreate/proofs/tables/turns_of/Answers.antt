use Rattle.std.proofs.Common.{◌<◌, ◌+◌, ◌*◌, arith}
use Rattle.ruin_recreate.proofs.Rows.{turns_more}
use Rattle.ruin_recreate.proofs.tables.turns_of.Goals as goal

pub loop-x-preserved : goal.loop-x-preserved
loop-x-preserved c =
    let within : c.loop-x.x < 2 * c.args.inst.now.required + 2 = omega arith in
    turns_more c.args.inst.now.required c.loop-x.x c.turn.result c.loop-x.turns.items c.push.new.self.items c.loop-x.invariant within c.turn.ensures.value c.turn.ensures.same_edge c.in_ok-push.ensures.items
