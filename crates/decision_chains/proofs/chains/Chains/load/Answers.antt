use Rattle.std.proofs.Common.{arith}
use Rattle.std.proofs.lemmas.List.{get_or_read}
use Rattle.decision_chains.proofs.chains.Chains.load.Goals as goal

pub returns-clause-small : goal.returns-clause-small
returns-clause-small c =
    let t = c.args.self.now in
    let label = c.label.ensures.within in
    omega (arith, get_or_read t.loads.items _ _ (omega (arith, label.from_one, label.in_range, c.requires.table.loads_long)) c.index.ensures 0, c.requires.table.small c.label.result label)
