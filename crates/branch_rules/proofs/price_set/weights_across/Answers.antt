use Rattle.std.proofs.Common.{arith}
use Rattle.std.proofs.lemmas.Int.{ints}
use Rattle.branch_rules.specs.Prices.{crossing_weight, no_weight}
use Rattle.branch_rules.specs.declared.weight.Weight.{Weight}
use Rattle.branch_rules.proofs.Signed.{signed_sum_step}
use Rattle.branch_rules.proofs.price_set.weights_across.Goals as goal

pub loop-weight-preserved : goal.loop-weight-preserved
loop-weight-preserved c =
    let across = c.weight_across-sum.ensures in
    record {
      value = signed_sum_step {X = Weight} (crossing_weight c.args.pool.now c.args.edge.now) c.args.weights.now c.loop-weight.weight-index no_weight _ _ _ (omega arith)
          c.loop-weight.invariant.value across.value (omega (arith, ints, across.within.low, across.within.high));
      low = omega (arith, ints, across.within.low);
      high = omega (arith, ints, across.within.high);
    }
