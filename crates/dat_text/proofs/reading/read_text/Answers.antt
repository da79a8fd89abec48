use Rattle.std.proofs.lemmas.Result.{err_from_is_err_and}
use Rattle.dat_text.proofs.WholeTexts.{refused_text}
use Rattle.dat_text.proofs.reading.read_text.Goals as goal

pub returns-in_err-read_lines : goal.returns-in_err-read_lines
returns-in_err-read_lines c =
    let p = err_from_is_err_and c.from_residual.result c.from_residual.ensures.1 in
    rw (p.1, p.2) (refused_text c.args.bytes.now c.in_err-read_lines.field-0.0 c.in_err-read_lines.ensures)
