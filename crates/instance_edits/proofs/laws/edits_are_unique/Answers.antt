use Rattle.instance_edits.proofs.Unique.{edits_same, no_fault, bad_same}
use Rattle.instance_edits.proofs.laws.edits_are_unique.Goals as goal

pub returns-clause-edits : goal.returns-clause-edits
returns-clause-edits c = edits_same

pub returns-clause-apart : goal.returns-clause-apart
returns-clause-apart c = no_fault

pub returns-clause-fault : goal.returns-clause-fault
returns-clause-fault c = bad_same
