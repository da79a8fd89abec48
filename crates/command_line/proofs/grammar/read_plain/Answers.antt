use Rattle.std.proofs.Common.{◌≡◌, ◌∙◌, sym, ap, subst, true, Some}
use Rattle.std.specs.Prelude.{IsSomeAnd}
use Rattle.clap.specs.Takes.{takes}
use Rattle.command_line.specs.Forms.{command_in}
use Rattle.command_line.specs.Grammar.{command_by}
use Rattle.command_line.specs.Words.{texts_of}
use Rattle.command_line.proofs.Matched.{matched}
use Rattle.command_line.proofs.Meaning.{plain_means}
use Rattle.command_line.proofs.grammar.read_plain.Goals as goal

pub unreachable-requires : goal.unreachable-requires
unreachable-requires c =
    let means = plain_means (texts_of c.args.words.now) c.requires in
    subst (λ r. IsSomeAnd r (λ x. command_in x ≡ command_by means.form means.names means.options)) c.in-None.is
    (c.command_from.ensures means.verb means.rows means.form means.names means.options (matched (texts_of c.args.words.now) _ c.in-Ok.matches means.entered c.in_ok-grammar.ensures c.in-Ok.ensures.matches) means.of_verb means.read means.digits)

pub unreachable-requires-in_default : goal.unreachable-requires-in_default
unreachable-requires-in_default c =
    let means = plain_means (texts_of c.args.words.now) c.requires in
    let taken = subst (λ a. takes a (texts_of c.args.words.now) ≡ true) (sym c.in_ok-grammar.ensures) means.taken in
    c.in_default.not-OutOfMemory (c.kind.ensures ∙ c.in-Err.ensures.passes taken)

pub returns-in-Some : goal.returns-in-Some
returns-in-Some c =
    let means = plain_means (texts_of c.args.words.now) c.requires in
    let one : command_in c.in-Some.command ≡ command_by means.form means.names means.options =
    subst (λ r. IsSomeAnd r (λ x. command_in x ≡ command_by means.form means.names means.options)) c.in-Some.is
    (c.command_from.ensures means.verb means.rows means.form means.names means.options (matched (texts_of c.args.words.now) _ c.in-Ok.matches means.entered c.in_ok-grammar.ensures c.in-Ok.ensures.matches) means.of_verb means.read means.digits) in
    means.is ∙ ap Some (sym one)
