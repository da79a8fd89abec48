use Rattle.std.proofs.Common.{sym, ◌∙◌}
use Rattle.decision_chains.proofs.Barring.{settled_is, is_settled}
use Rattle.decision_chains.proofs.chains.Chains.determines.Goals as goal

pub returns : goal.returns
returns c =
    let t = c.args.self.now in
    let table = c.requires.table in
    let value = rw (c.joins.ensures, c.bars.ensures, c.says_no.ensures) at c.settles.ensures in (
      (λ is. settled_is t table c.args.a c.args.b c.requires.a c.requires.b (sym value ∙ is)),
      (λ settled. value ∙ is_settled t table c.args.a c.args.b c.requires.a c.requires.b settled),
    )
