use Rattle.std.proofs.Common.{sym, ◌∙◌, inl, inr}
use Rattle.std.proofs.lemmas.Bool.{both_ways}
use Rattle.decision_chains.specs.Exclusions.{said_no}
use Rattle.decision_chains.proofs.Barring.{barred_excludes, excluded_barred}
use Rattle.decision_chains.proofs.chains.Chains.excludes.Goals as goal

pub returns-then-bars : goal.returns-then-bars
returns-then-bars c = (
  (λ _. barred_excludes c.args.self.now c.requires.table c.args.a c.args.b c.requires.a c.requires.b (sym c.bars.ensures ∙ c.if-bars.true)),
  (λ _. c.if-bars.true),
)

pub returns-else-bars : goal.returns-else-bars
returns-else-bars c = (
  (λ is. said_no (sym c.says_no.ensures ∙ is)),
  (λ excluded. elim (excluded_barred c.args.self.now c.requires.table c.args.a c.args.b c.requires.a c.requires.b excluded) [
    | inl barred ↦ absurd (both_ways _ c.if-bars.false (c.bars.ensures ∙ barred))
    | inr said ↦ c.says_no.ensures ∙ said
  ]),
)
