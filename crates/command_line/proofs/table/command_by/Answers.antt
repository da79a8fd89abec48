use Rattle.std.proofs.Common.{◌≡◌, ◌∙◌, sym, false, refl, rules, codes, None}
use Rattle.std.specs.Str.{bytes_eq}
use Rattle.command_line.specs.Words.{form_of}
use Rattle.command_line.proofs.Matched.{none_is_not_some}
use Rattle.command_line.proofs.table.command_by.Goals as goal

pub returns-in_default : goal.returns-in_default
returns-in_default c = λ form is.
    let solve : bytes_eq (codes "solve") c.args.verb.now ≡ false = search rules in
    let check : bytes_eq (codes "check") c.args.verb.now ≡ false = search rules in
    let sheet : bytes_eq (codes "sheet") c.args.verb.now ≡ false = search rules in
    let make : bytes_eq (codes "make") c.args.verb.now ≡ false = search rules in
    let drill : bytes_eq (codes "drill") c.args.verb.now ≡ false = search rules in
    let upgrade : bytes_eq (codes "upgrade") c.args.verb.now ≡ false = search rules in
    let postman : bytes_eq (codes "postman") c.args.verb.now ≡ false = search rules in
    let fleet : bytes_eq (codes "fleet") c.args.verb.now ≡ false = search rules in
    let edit : bytes_eq (codes "edit") c.args.verb.now ≡ false = search rules in
    let improve : bytes_eq (codes "improve") c.args.verb.now ≡ false = search rules in
    let none : form_of c.args.verb.now ≡ None = rw (solve, check, sheet, make, drill, upgrade, postman, fleet, edit, improve) refl in
    absurd (none_is_not_some form (sym none ∙ is))
