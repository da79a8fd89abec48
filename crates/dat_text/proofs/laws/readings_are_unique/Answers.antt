use Rattle.dat_text.proofs.TextVerdicts.{one_instance, one_fault, text_or_fault}
use Rattle.dat_text.proofs.laws.readings_are_unique.Goals as goal

pub returns-clause-instance : goal.returns-clause-instance
returns-clause-instance c = one_instance

pub returns-clause-fault : goal.returns-clause-fault
returns-clause-fault c = one_fault

pub returns-clause-apart : goal.returns-clause-apart
returns-clause-apart c = text_or_fault c.valid_where_no_fault.ensures
