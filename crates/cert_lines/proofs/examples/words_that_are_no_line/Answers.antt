use Rattle.cert_lines.proofs.Shapeless.{two_blanks, blank_at_the_end, carriage_return, leading_zero, minus_zero}
use Rattle.cert_lines.proofs.examples.words_that_are_no_line.Goals as goal

pub returns-clause-two_blanks : goal.returns-clause-two_blanks
returns-clause-two_blanks c = two_blanks _

pub returns-clause-blank_at_the_end : goal.returns-clause-blank_at_the_end
returns-clause-blank_at_the_end c = blank_at_the_end _

pub returns-clause-carriage_return : goal.returns-clause-carriage_return
returns-clause-carriage_return c = carriage_return _

pub returns-clause-leading_zero : goal.returns-clause-leading_zero
returns-clause-leading_zero c = leading_zero _

pub returns-clause-minus_zero : goal.returns-clause-minus_zero
returns-clause-minus_zero c = minus_zero _
