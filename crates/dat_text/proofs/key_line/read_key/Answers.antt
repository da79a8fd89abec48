use Rattle.std.proofs.Common.{Some, sym, ap}
use Rattle.dat_text.proofs.KeyShapes.{stated_is, stated_digits, no_key_shape}
use Rattle.dat_text.proofs.key_line.read_key.Goals as goal

pub value_of-requires : goal.value_of-requires
value_of-requires c = stated_digits c.args.text.now c.in-Some.digits.now (stated_is c.args.text.now c.in-Some.digits.now (sym c.in-Some.ensures))

pub returns-in-None : goal.returns-in-None
returns-in-None c = no_key_shape c.args.key c.args.text.now (sym c.if-not-has_number.ensures) (sym c.in-None.ensures)

pub returns-in-None-value_of : goal.returns-in-None-value_of
returns-in-None-value_of c = (
  c.in-Some.digits.now,
  (sym c.if-not-has_number.ensures, stated_is c.args.text.now c.in-Some.digits.now (sym c.in-Some.ensures)),
  c.in-None-value_of.ensures,
)

pub returns-in-Some-value_of : goal.returns-in-Some-value_of
returns-in-Some-value_of c = record {
  digits = Some c.in-Some.digits.now;
  has_shape = (sym c.if-not-has_number.ensures, stated_is c.args.text.now c.in-Some.digits.now (sym c.in-Some.ensures));
  short = c.in-Some-value_of.ensures.0;
  value = ap Some c.in-Some-value_of.ensures.1;
}
