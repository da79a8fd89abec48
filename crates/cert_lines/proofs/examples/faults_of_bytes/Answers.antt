use Rattle.cert_lines.proofs.Shapeless.{first_is_bad, stops_in_the_second, second_is_bad, second_passes_a_limit}
use Rattle.cert_lines.proofs.examples.faults_of_bytes.Goals as goal

pub returns-clause-one_line : goal.returns-clause-one_line
returns-clause-one_line c = stops_in_the_second

pub returns-clause-two_blanks : goal.returns-clause-two_blanks
returns-clause-two_blanks c = second_is_bad

pub returns-clause-past_a_limit : goal.returns-clause-past_a_limit
returns-clause-past_a_limit c = second_passes_a_limit

pub returns-clause-bad_version : goal.returns-clause-bad_version
returns-clause-bad_version c = first_is_bad
