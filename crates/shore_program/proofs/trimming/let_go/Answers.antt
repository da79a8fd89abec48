use Rattle.std.proofs.Common.{arith}
use Rattle.shore_program.proofs.Shrinking.{one_went}
use Rattle.shore_program.proofs.trimming.let_go.Goals as goal

pub returns-clause-shrinks : goal.returns-clause-shrinks
returns-clause-shrinks c =
    one_went c.args.cuts.now.items c.swap_remove.new.self.items c.args.idle.now.shore c.swap_remove.result c.requires.idle.shore
    c.swap_remove.ensures.items
    (omega (arith, c.swap_remove.ensures.len, c.swap_remove.new.self.ok.0, c.args.cuts.now.ok.0))
