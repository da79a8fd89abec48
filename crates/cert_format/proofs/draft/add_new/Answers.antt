use Rattle.std.proofs.Common.{inl, inr, arith}
use Rattle.std.proofs.lemmas.Bool.{ltb-false}
use Rattle.cert_format.proofs.Pools.{holds_or_not}
use Rattle.cert_format.proofs.draft.add_new.Goals as goal

pub returns-in-Ok-clause-old : goal.returns-in-Ok-clause-old
returns-in-Ok-clause-old c = λ fails. elim (holds_or_not c.args.pool.now c.args.shore) [
  | inl h ↦ (h, (c.in-Ok.ensures.held h).1)
  | inr none ↦ absurd (omega (arith, ltb-false c.len-before.result c.in-Ok.number fails, (c.in-Ok.ensures.placed none).0, c.len-before.ensures.value))
]
