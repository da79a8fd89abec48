use Rattle.std.proofs.Common.{sym, ◌∙◌}
use Rattle.std.proofs.lemmas.Bool.{false≢true}
use Rattle.dat_text.proofs.KeyLines.{none_more, none_of_all}
use Rattle.dat_text.proofs.kind.key_named.Goals as goal

pub loop-key-preserved : goal.loop-key-preserved
loop-key-preserved c =
    none_more c.args.name.now c.loop-key.key-index c.as_bytes.result.now (c.as_bytes.ensures.value ∙ c.name.ensures)
    (λ same. false≢true (sym c.if-eq_ignore_ascii_case.false ∙ c.eq_ignore_ascii_case.ensures.test.1 same)) c.loop-key.invariant

pub returns-clause-none : goal.returns-clause-none
returns-clause-none c = λ _. none_of_all c.args.name.now c.loop-key.key-index c.loop-key-test.false c.loop-key.invariant
