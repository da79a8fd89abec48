use Rattle.cert_lines.proofs.Readings.{text_unique, text_no_fault, fault_unique}
use Rattle.cert_lines.proofs.laws.texts_are_unique.Goals as goal

pub returns-clause-text : goal.returns-clause-text
returns-clause-text c = text_unique

pub returns-clause-apart : goal.returns-clause-apart
returns-clause-apart c = text_no_fault

pub returns-clause-fault : goal.returns-clause-fault
returns-clause-fault c = fault_unique
