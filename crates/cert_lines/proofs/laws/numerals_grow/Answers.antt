use Rattle.cert_lines.proofs.Digits.{digit_is_numeral, numeral_grows, numeral_of_digits, numeral_unique, signed_unique}
use Rattle.cert_lines.proofs.laws.numerals_grow.Goals as goal

pub returns-clause-digit : goal.returns-clause-digit
returns-clause-digit c = digit_is_numeral

pub returns-clause-more : goal.returns-clause-more
returns-clause-more c = numeral_grows

pub returns-clause-digits : goal.returns-clause-digits
returns-clause-digits c = numeral_of_digits

pub returns-clause-unique : goal.returns-clause-unique
returns-clause-unique c = numeral_unique

pub returns-clause-signed : goal.returns-clause-signed
returns-clause-signed c = signed_unique
