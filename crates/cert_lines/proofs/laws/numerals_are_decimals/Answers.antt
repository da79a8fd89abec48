use Rattle.cert_lines.proofs.Digits.{numeral_is_decimal, signed_is_decimal}
use Rattle.cert_lines.proofs.laws.numerals_are_decimals.Goals as goal

pub returns-clause-natural : goal.returns-clause-natural
returns-clause-natural c = numeral_is_decimal

pub returns-clause-whole : goal.returns-clause-whole
returns-clause-whole c = signed_is_decimal
