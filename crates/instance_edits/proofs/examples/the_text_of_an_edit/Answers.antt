use Rattle.instance_edits.proofs.ExampleTexts.{one_text, close_text}
use Rattle.instance_edits.proofs.examples.the_text_of_an_edit.Goals as goal

pub returns-clause-cost : goal.returns-clause-cost
returns-clause-cost c = one_text

pub returns-clause-close : goal.returns-clause-close
returns-clause-close c = close_text

pub returns-clause-numbers : goal.returns-clause-numbers
returns-clause-numbers c = one_text
