use Rattle.cert_lines.proofs.Cuts.{marked_step, unmarked_step}
use Rattle.cert_lines.proofs.word.Word.step_marked.Goals as goal

pub returns-in_default : goal.returns-in_default
returns-in_default c = λ text held same. unmarked_step c.args.mark c.args.served c.args.forward same (c.in_default.ensures.told text held)

pub returns : goal.returns
returns c = λ text held same. marked_step c.args.mark c.in-Some.number c.args.served c.args.forward c.min-edge.result same (c.in-Some.ensures.told text held) c.min-edge.ensures
