use Rattle.std.proofs.Common.{arith, inl, inr, subst}
use Rattle.std.proofs.lemmas.Bool.{cases_lt}
use Rattle.local_moves.specs.Sequences.{IsQuiet}
use Rattle.local_moves.proofs.Later.{none_left}
use Rattle.local_moves.proofs.searching.search.Goals as goal

pub loop-place-preserved : goal.loop-place-preserved
loop-place-preserved c = λ k one below. elim (cases_lt k c.loop-place.place) [
  | inl earlier ↦ c.loop-place.invariant k one earlier
  | inr not_earlier ↦ subst (λ i. IsQuiet c.args.board.now c.args.sequence.now i) (omega (arith, below, not_earlier)) (none_left _ c.in_ok-sequence.field-0 c.in_ok-sequence.ensures c.in_default.is)
]
