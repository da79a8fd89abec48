use Rattle.std.proofs.Common.{◌∙◌, sym}
use Rattle.std.specs.Str.{bytes_eq}
use Rattle.clap.proofs.WalkLemmas.{find-map}
use Rattle.command_line.specs.Forms.{Row, row_of}
use Rattle.command_line.specs.Words.{form_of, forms}
use Rattle.command_line.proofs.Options.{same_row}
use Rattle.command_line.proofs.table.form_of.Goals as goal

pub returns : goal.returns
returns c = same_row c.row_of.result (form_of c.args.verb.now) (c.row_of.ensures ∙ sym (find-map (λ (row : Row). bytes_eq row.verb c.args.verb.now) row_of forms))
