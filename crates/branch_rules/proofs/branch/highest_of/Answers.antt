use Rattle.std.proofs.Common.{arith}
use Rattle.branch_rules.proofs.ShoreNumbers.{highest_step}
use Rattle.branch_rules.proofs.branch.highest_of.Goals as goal

pub loop-decision-preserved : goal.loop-decision-preserved
loop-decision-preserved c = record {
  value = highest_step c.args.shore c.args.decisions.now c.loop-decision.decision-index _ _ _ _ c.loop-decision-test.true c.loop-decision.invariant.value
      c.high_of.ensures.value c.max-most.ensures;
  small = omega (arith, c.loop-decision.invariant.small, c.high_of.ensures.small, c.max-most.ensures);
}
