use Rattle.std.proofs.Common.{rules}
use Rattle.cert_lines.proofs.Cuts.{no_natural, natural_whole, natural_long}
use Rattle.cert_lines.proofs.number.natural_in.Goals as goal

pub returns-then-not-digits-clause-told : goal.returns-then-not-digits-clause-told
returns-then-not-digits-clause-told c = λ text cut. no_natural cut (λ whole. (let a = whole.digits in let b = c.if-not-digits.true in cc))

pub returns-then-not-is_numeral-clause-told : goal.returns-then-not-is_numeral-clause-told
returns-then-not-is_numeral-clause-told c = λ text cut. no_natural cut (λ whole. (let a = c.is_numeral.ensures.1 whole.is_one in let b = c.if-not-is_numeral.true in cc))

pub returns-then-not-more-clause-told : goal.returns-then-not-more-clause-told
returns-then-not-more-clause-told c = λ text cut. natural_whole cut (search rules) (c.is_numeral.ensures.0 (search rules)) c.value_of.result c.value_of.ensures

pub returns-clause-told : goal.returns-clause-told
returns-clause-told c = λ text cut. natural_long cut (search rules) (c.is_numeral.ensures.0 (search rules)) (search rules)
