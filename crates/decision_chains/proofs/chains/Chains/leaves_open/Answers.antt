use Rattle.std.proofs.Common.{sym, ◌∙◌, inr}
use Rattle.std.proofs.lemmas.Bool.{not-true, not-false}
use Rattle.decision_chains.proofs.Settling.{open_now, joined_now, match_from, match_false}
use Rattle.decision_chains.proofs.chains.Chains.leaves_open.Goals as goal

pub returns-then-may : goal.returns-then-may
returns-then-may c =
    let t = c.args.self.now in
    let table = c.requires.table in
    match_from _ _ _
    (λ unjoined. open_now t table c.args.a c.args.b c.requires.a c.requires.b c.args.allowed.now c.requires.permits (sym c.may.ensures.value ∙ c.if-may.true) (sym c.joins.ensures ∙ not-true _ unjoined))
    (λ joined. joined_now t table c.args.a c.args.b c.requires.a c.requires.b (sym c.joins.ensures ∙ not-false _ joined))

pub returns-else-may : goal.returns-else-may
returns-else-may c =
    let refused = c.requires.permits.refused c.args.a c.args.b c.requires.a c.requires.b (sym c.may.ensures.value ∙ c.if-may.false) in
    match_false _ _ _ c.if-may.false (inr refused)
