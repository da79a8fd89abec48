use Rattle.std.proofs.Common.{sym, ◌∙◌}
use Rattle.decision_chains.proofs.Barring.{barred_excludes}
use Rattle.decision_chains.proofs.TakingOut.{takes_one}
use Rattle.decision_chains.proofs.chains.Chains.take_out_pair.Goals as goal

pub returns-then-bars-clause-takes : goal.returns-then-bars-clause-takes
returns-then-bars-clause-takes c =
    let t = c.args.self.now in
    takes_one t.inst.now t.decisions.now c.args.allowed.now c.exclude.new.self c.args.a c.args.b c.requires.on
    (barred_excludes t c.requires.table c.args.a c.args.b c.requires.a c.requires.b (sym c.bars.ensures ∙ c.if-bars.true)) c.exclude.ensures
