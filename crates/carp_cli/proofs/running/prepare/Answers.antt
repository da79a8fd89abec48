use Rattle.std.proofs.Common.{◌≡◌, Some, subst}
use Rattle.std.specs.Prelude.{IfSome}
use Rattle.command_line.specs.Forms.{command_in}
use Rattle.command_line.specs.Laws.{HasBudget}
use Rattle.command_line.specs.Words.{command_of, texts_of}
use Rattle.carp_cli.proofs.running.prepare.Goals as goal

pub perform-requires : goal.perform-requires
perform-requires g c =
    let words = texts_of c.args.words.now in
    let is : command_of words ≡ Some (command_in c.in-Ok-Some.command) = rw c.in-Ok-Some.field-0-is at c.in-Ok-Some.ensures in
    subst (λ o. IfSome o HasBudget) is (c.budgets_are_in_range.ensures words)

pub returns-in-Ok-Some-clause-seeds : goal.returns-in-Ok-Some-clause-seeds
returns-in-Ok-Some-clause-seeds g c =
    let is : command_of (texts_of c.args.words.now) ≡ Some (command_in c.in-Ok-Some.command) = rw c.in-Ok-Some.field-0-is at c.in-Ok-Some.ensures in
    rw is c.perform.ensures.seeds

pub returns-in-Ok-Some-clause-asked : goal.returns-in-Ok-Some-clause-asked
returns-in-Ok-Some-clause-asked g c =
    let is : command_of (texts_of c.args.words.now) ≡ Some (command_in c.in-Ok-Some.command) = rw c.in-Ok-Some.field-0-is at c.in-Ok-Some.ensures in
    rw is c.perform.ensures.asked

pub returns-in-Ok-Some-clause-fouls : goal.returns-in-Ok-Some-clause-fouls
returns-in-Ok-Some-clause-fouls g c =
    let is : command_of (texts_of c.args.words.now) ≡ Some (command_in c.in-Ok-Some.command) = rw c.in-Ok-Some.field-0-is at c.in-Ok-Some.ensures in
    rw is c.perform.ensures.fouls
