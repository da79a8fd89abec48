use Rattle.std.proofs.Common.{◌≡◌, ◌∙◌, ap, sym, subst, refl, [], codes, map, unwrap_or, Some}
use Rattle.std.specs.Prelude.{IsSomeAnd}
use Rattle.std.specs.Option.{option_map_or}
use Rattle.clap.specs.Matches.{found_of}
use Rattle.clap.specs.Walk.{all_of, one_of, rows_of}
use Rattle.command_line.specs.Forms.{Row, row_in, row_of}
use Rattle.command_line.specs.Grammar.{digits_given}
use Rattle.command_line.specs.Words.{form_of, number_of, seed_word, turns_word}
use Rattle.command_line.proofs.Matched.{met_is, names_read, none_is_not_some, said}
use Rattle.command_line.proofs.grammar.command_from.Goals as goal

pub returns-in_err-form : goal.returns-in_err-form
returns-in_err-form c = λ verb rows form names options entered is read digits.
    let met = met_is c.args.matches.now verb c.in_ok-verb.verb.now rows (rows_of (found_of c.in_ok-verb.inner.now)) c.in_ok-verb.ensures.name c.in_ok-verb.ensures.rows entered in
    absurd (none_is_not_some form (sym c.in_err-form.ensures ∙ ap form_of met.0 ∙ is))

pub returns : goal.returns
returns c = λ verb rows form names options entered is read digits.
    let met = met_is c.args.matches.now verb c.in_ok-verb.verb.now rows (rows_of (found_of c.in_ok-verb.inner.now)) c.in_ok-verb.ensures.name c.in_ok-verb.ensures.rows entered in
    let formed : form_of c.in_ok-verb.verb.now ≡ Some form = ap form_of met.0 ∙ is in
    let row : row_in c.in_ok-form.form ≡ row_of form = subst (λ o. IsSomeAnd o (λ f. row_in c.in_ok-form.form ≡ row_of f)) formed c.in_ok-form.ensures in
    let turns = c.number_in-turns.ensures (digits_given turns_word options) (ap (one_of (codes "turns")) met.1 ∙ read.turns_are) digits.turns_are in
    let number = c.number_in-seed.ensures (digits_given seed_word options) (ap (one_of (codes "seed")) met.1 ∙ read.seed_is) digits.seed_is in
    said c.command_by.result form names _ _ _ _ _ (c.command_by.ensures form formed)
    (names_read (λ names. map (λ name. name.now) names.now) (found_of c.in_ok-verb.inner.now) (codes "names") c.get_strs.result _ c.unwrap_or-names.result refl c.get_strs.ensures c.unwrap_or-names.ensures
    ∙ ap (λ rows. unwrap_or (all_of (codes "names") rows) []) met.1 ∙ read.names_are)
    (turns ∙ ap (option_map_or number_of (digits_given turns_word options)) (c.unwrap_or.ensures ∙ ap (λ (r : Row). unwrap_or r.turns 0) row))
    (number ∙ ap (option_map_or number_of (digits_given seed_word options)) (c.unwrap_or-2.ensures ∙ ap (λ (r : Row). unwrap_or r.seed 0) row))
