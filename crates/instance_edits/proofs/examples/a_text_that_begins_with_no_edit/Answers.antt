use Rattle.instance_edits.proofs.ExampleTexts.{line_begins}
use Rattle.instance_edits.proofs.examples.a_text_that_begins_with_no_edit.Goals as goal

pub returns-clause-line : goal.returns-clause-line
returns-clause-line c = line_begins
