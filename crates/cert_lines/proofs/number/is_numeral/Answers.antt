use Rattle.std.proofs.Common.{sym, ◌∙◌}
use Rattle.cert_lines.proofs.Cuts.{none_tested}
use Rattle.cert_lines.proofs.number.is_numeral.Goals as goal

pub returns-then-is_empty : goal.returns-then-is_empty
returns-then-is_empty c = none_tested c.args.text.now (sym c.is_empty.ensures ∙ c.if-is_empty.true)
