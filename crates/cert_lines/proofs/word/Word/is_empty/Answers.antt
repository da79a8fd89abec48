use Rattle.std.proofs.Common.{rules}
use Rattle.cert_lines.proofs.Cuts.{is_empty_told}
use Rattle.cert_lines.proofs.word.Word.is_empty.Goals as goal

pub returns : goal.returns
returns c = λ text held. is_empty_told c.args.self.now.kept.items text c.is_empty.result held (let a = c.is_empty.ensures in let b = c.as_slice.ensures.value in search rules)
