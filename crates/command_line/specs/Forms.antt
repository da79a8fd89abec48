-- What the code holds: a command, which public contracts cite, and the form that follows a verb, which none does.
use Rattle.std.specs.Prelude.{ℕ, List, Option}
use Rattle.command_line.specs.Commands as commands
use Rattle.command_line.specs.Words as words
use Rattle.command_line.specs.declared.command.Command.{Command}
use Rattle.command_line.specs.declared.command.Command.TheVariants as variants
use Rattle.command_line.specs.declared.table.Form.{Form}

-- the command that the code holds
abbrev pub command_in : Command → commands.Command
command_in (variants.Solve file cert turns seed) = commands.Solve file.now cert.now turns seed
command_in (variants.Check file cert) = commands.Check file.now cert.now
command_in (variants.Sheet file cert) = commands.Sheet file.now cert.now
command_in (variants.Make file seed) = commands.Make file.now seed
command_in (variants.Drill turns seed) = commands.Drill turns seed
command_in (variants.Upgrade file cert renewed) = commands.Upgrade file.now cert.now renewed.now
command_in (variants.Postman file) = commands.Postman file.now
command_in (variants.Fleet file turns) = commands.Fleet file.now turns
command_in (variants.Edit file cert edits edited carried) = commands.Edit file.now cert.now edits.now edited.now carried.now
command_in (variants.Improve file cert improved turns seed) = commands.Improve file.now cert.now improved.now turns seed

-- a row of the table without its command: as it is, and as the code holds it
pub record Row : Type 0 where
  pub verb : List ℕ
  pub names : ℕ
  pub turns : Option ℕ
  pub seed : Option ℕ

abbrev pub row_of : words.Form → Row
row_of form = record { verb = form.verb; names = form.names; turns = form.turns; seed = form.seed }

abbrev pub row_in : Form → Row
row_in form = record { verb = form.verb.now; names = form.names; turns = form.turns; seed = form.seed }
