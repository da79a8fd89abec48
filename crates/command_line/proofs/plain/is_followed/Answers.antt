use Rattle.std.proofs.Common.{◌≡◌, rules, true, sym, ◌∙◌, ap}
use Rattle.std.specs.Prelude.{◌&&◌, is_some}
use Rattle.command_line.proofs.Options.{followed, unnamed}
use Rattle.command_line.proofs.plain.is_followed.Goals as goal

pub returns-then-are_names : goal.returns-then-are_names
returns-then-are_names c =
    let yes : c.are_names.result ≡ true = search rules in
    sym (ap (λ b. b && c.are_options.result) yes)
    ∙ followed c.args.form.names (is_some c.args.form.turns) (is_some c.args.form.seed) c.args.words.now _ _ _ _ c.in-Some.ensures.cases.0 c.in-Some.ensures.cases.1 c.in-Some.ensures.cases.2 c.are_names.ensures c.are_options.ensures

pub returns-else-are_names : goal.returns-else-are_names
returns-else-are_names c =
    unnamed c.args.form.names (is_some c.args.form.turns) (is_some c.args.form.seed) c.args.words.now _ _ c.in-Some.ensures.cases.0 c.in-Some.ensures.cases.1 c.are_names.ensures (search rules)
