use Rattle.std.proofs.Common.{sym, ap, ◌∙◌}
use Rattle.decision_chains.specs.ChainTables.{near_besides}
use Rattle.decision_chains.proofs.Stepping.{leads_on}
use Rattle.decision_chains.proofs.chains.Chains.next.Goals as goal

pub returns : goal.returns
returns c = leads_on c.args.self.now c.requires.table c.requires.untangled c.args.edge c.args.before _ (ap (λ x. near_besides x c.args.before) (sym c.near.ensures) ∙ sym c.besides.ensures)
