use Rattle.std.proofs.Common.{refl}
use Rattle.cert_format.proofs.Growing.{first_word, no_first_word}
use Rattle.cert_format.proofs.line.LineState.take_keyword.Goals as goal
use Rattle.cert_format.proofs.line.LineState.take_keyword.Goals.{in-Some, in-None}

pub returns : goal.returns
returns c = λ text none held. elim c.match-kind_of.branch [
  | in-Some w ↦ first_word c.args.context _ text w.in-Some.kind none (w.in-Some.ensures text held) w.self-is refl
  | in-None w ↦ no_first_word c.args.context _ text (w.in-None.ensures text held) w.self-is
]
