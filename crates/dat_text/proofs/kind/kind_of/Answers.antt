use Rattle.std.proofs.Common.{sym, refl}
use Rattle.dat_text.proofs.KeyLines.{is_opened, has_key, is_skipped}
use Rattle.dat_text.proofs.kind.kind_of.Goals as goal

pub returns-in-Some : goal.returns-in-Some
returns-in-Some c = is_opened c.args.line.now c.in-Some.field-0.now (sym c.in-Some.ensures)

pub returns-in-Some-key_at : goal.returns-in-Some-key_at
returns-in-Some-key_at c =
    has_key c.in-Some-key_at.key c.args.line.now c.skip_blanks.result.now c.in-Some-key_at.rest.now c.skip_blanks.ensures c.in-Some-key_at.ensures.found.0 c.in-Some-key_at.ensures.found.1

pub returns-in-None-key_at : goal.returns-in-None-key_at
returns-in-None-key_at c =
    is_skipped c.args.line.now c.skip_blanks.result.now c.skip_blanks.ensures (sym c.in-None.ensures) (c.in-None-key_at.ensures.none refl)
