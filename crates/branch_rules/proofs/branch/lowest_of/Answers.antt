use Rattle.branch_rules.proofs.ShoreNumbers.{lowest_step}
use Rattle.branch_rules.proofs.branch.lowest_of.Goals as goal

pub loop-decision-preserved : goal.loop-decision-preserved
loop-decision-preserved c = record {
  value = lowest_step c.args.shore c.args.decisions.now c.loop-decision.decision-index _ _ _ _ c.loop-decision-test.true c.loop-decision.invariant.value c.low_of.ensures.value c.lesser-least.ensures.value;
  small = c.lesser-least.ensures.small;
}
