use Rattle.decision_chains.specs.Exclusions.{said_no}
use Rattle.decision_chains.proofs.TakingOut.{takes_one}
use Rattle.decision_chains.proofs.chains.Chains.take_out_no.Goals as goal

pub returns-in-No-clause-takes : goal.returns-in-No-clause-takes
returns-in-No-clause-takes c =
    let t = c.args.self.now in
    takes_one t.inst.now t.decisions.now c.args.allowed.now c.exclude.new.self c.in-No.a c.in-No.b c.requires.on (said_no (c.requires.said c.in-No.a c.in-No.b c.in-No.is)) c.exclude.ensures
