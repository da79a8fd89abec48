use Rattle.std.proofs.Common.{arith, subst}
use Rattle.cert_checker.specs.Layers.{LayerSays}
use Rattle.cert_checker.specs.Reasons.{HeadIsRight}
use Rattle.cert_checker.proofs.stream.stage_of.Goals as goal

pub returns-in_ok-new-in-None-clause-says : goal.returns-in_ok-new-in-None-clause-says
returns-in_ok-new-in-None-clause-says c = record {
  head = subst (LayerSays HeadIsRight c.args.claim.now) c.in-None.is c.in_ok-reason.ensures;
  keeps = c.in_ok-new-in-None.ensures.checker;
  walked = c.in_ok-new-in-None.ensures.walked;
  few = omega (arith, c.in_ok-new-in-None.ensures.count);
}
