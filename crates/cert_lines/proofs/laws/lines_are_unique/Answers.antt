use Rattle.cert_lines.specs.Lines.{line_text}
use Rattle.cert_lines.proofs.Words.{line_bounds}
use Rattle.cert_lines.proofs.LineWords.{line_unique, line_is_text}
use Rattle.cert_lines.proofs.laws.lines_are_unique.Goals as goal

pub returns-clause-unique : goal.returns-clause-unique
returns-clause-unique c = line_unique

pub returns-clause-whole : goal.returns-clause-whole
returns-clause-whole c line = line_bounds (line_text line) (line_is_text line)
