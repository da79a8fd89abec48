use Rattle.cert_lines.proofs.LineWords.{line_cut}
use Rattle.cert_lines.proofs.laws.lines_are_cut.Goals as goal

pub returns : goal.returns
returns c = line_cut
