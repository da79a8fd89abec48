use Rattle.instance_edits.proofs.ExampleTexts.{one_read, front_read, not_whole}
use Rattle.instance_edits.proofs.examples.the_text_of_edits.Goals as goal

pub returns-clause-one : goal.returns-clause-one
returns-clause-one c = one_read

pub returns-clause-front : goal.returns-clause-front
returns-clause-front c = front_read

pub returns-clause-not_whole : goal.returns-clause-not_whole
returns-clause-not_whole c = not_whole
