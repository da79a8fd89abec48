use Rattle.cert_lines.proofs.Readings.{reading_unique, reading_not_bad, breaking_unique}
use Rattle.cert_lines.proofs.laws.readings_are_unique.Goals as goal

pub returns-clause-reading : goal.returns-clause-reading
returns-clause-reading c = reading_unique

pub returns-clause-apart : goal.returns-clause-apart
returns-clause-apart c = reading_not_bad

pub returns-clause-bad : goal.returns-clause-bad
returns-clause-bad c = breaking_unique
