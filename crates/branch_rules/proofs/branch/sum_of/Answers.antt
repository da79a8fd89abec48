use Rattle.std.proofs.Common.{arith, pos}
use Rattle.std.proofs.lemmas.Int.{ints}
use Rattle.branch_rules.proofs.Signed.{signed_sum_more}
use Rattle.branch_rules.proofs.branch.sum_of.Goals as goal

pub loop-price-preserved : goal.loop-price-preserved
loop-price-preserved c =
    let one = c.requires.within c.loop-price.price-index (pos 0) c.loop-price-test.true in
    let here = c.from-sum.ensures in
    let more = signed_sum_more (λ price. price) c.args.prices.now c.loop-price.price-index (pos 0) c.loop-price-test.true in
    record {
      value = omega (arith, ints, more, here, one.low, one.high);
      low = omega (arith, ints, here, one.low, one.high);
      high = omega (arith, ints, here, one.low, one.high);
    }
