use Rattle.std.proofs.Common.{sym, ◌∙◌}
use Rattle.matching_duals.proofs.Laying.{next_there, next_other}
use Rattle.matching_duals.proofs.setting.lay_where.Goals as goal

pub returns-in_ok-lay_set : goal.returns-in_ok-lay_set
returns-in_ok-lay_set c =
    next_there c.args.inst.now c.args.ground.now.odd.items c.args.ground.now.table.items c.args.matching.now c.args.size c.args.i c.lay_set.new.laying.enclosing.items
    c.lay_set.new.laying.shores.items (sym c.set_len.ensures ∙ c.if-set_len-size.true) c.in_ok-lay_set.ensures

pub returns-else-set_len-size : goal.returns-else-set_len-size
returns-else-set_len-size c =
    next_other c.args.inst.now c.args.ground.now.odd.items c.args.ground.now.table.items c.args.matching.now c.args.size c.args.i c.args.laying.now.enclosing.items
    c.args.laying.now.shores.items (λ same. c.if-set_len-size.false (c.set_len.ensures ∙ same)) c.requires.laid
