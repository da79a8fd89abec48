use Rattle.std.proofs.Common.{◌+◌, ◌*◌, ap, ◌∙◌, arith}
use Rattle.instance_edits.proofs.Numbers.{value_more, value_small, value_at}
use Rattle.instance_edits.proofs.line.value_of.Goals as goal

pub overflow_mul-value : goal.overflow_mul-value
overflow_mul-value c =
    let small = value_small c.args.digits.now c.loop-digit.digit-index c.loop-digit.value c.requires.digits c.loop-digit-test.true c.requires.short c.loop-digit.invariant in
    omega (arith, small)

pub overflow_add-value : goal.overflow_add-value
overflow_add-value c =
    let small = value_small c.args.digits.now c.loop-digit.digit-index c.loop-digit.value c.requires.digits c.loop-digit-test.true c.requires.short c.loop-digit.invariant in
    omega (arith, small, c.from.ensures, c.type_inv.digits c.loop-digit.digit-index)

pub loop-digit-preserved : goal.loop-digit-preserved
loop-digit-preserved c =
    let more = value_more c.args.digits.now c.loop-digit.digit-index c.loop-digit.value c.requires.digits c.loop-digit-test.true c.loop-digit.invariant in
    ap (λ k. 10 * c.loop-digit.value + k) c.from.ensures ∙ more

pub overflow_sub-digit : goal.overflow_sub-digit
overflow_sub-digit c = (value_at c.args.digits.now c.loop-digit.digit-index c.requires.digits c.loop-digit-test.true).0
