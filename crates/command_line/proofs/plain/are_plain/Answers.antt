use Rattle.std.proofs.Common.{subst}
use Rattle.std.specs.Prelude.{◌≡◌, IsSomeAnd}
use Rattle.command_line.specs.Forms.{row_in, row_of}
use Rattle.command_line.specs.Words.{form_of}
use Rattle.command_line.proofs.Options.{verb_follows}
use Rattle.command_line.proofs.plain.are_plain.Goals as goal

pub returns-in-Some : goal.returns-in-Some
returns-in-Some c =
    verb_follows c.args.words.now c.verb-item.result (row_in c.in-Some.form) c.is_followed.result c.in-len1-up.len_at_least c.verb-item.is
    (subst (λ text. IsSomeAnd (form_of text) (λ form. row_in c.in-Some.form ≡ row_of form)) c.as_str.ensures.value c.in-Some.ensures) c.is_followed.ensures
