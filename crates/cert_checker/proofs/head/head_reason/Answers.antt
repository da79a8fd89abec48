use Rattle.std.proofs.Common.{subst}
use Rattle.cert_checker.specs.Layers.{LayerSays}
use Rattle.cert_checker.specs.Reasons.{PlanIsRight}
use Rattle.cert_checker.proofs.head.head_reason.Goals as goal

pub shore_reason-requires : goal.shore_reason-requires
shore_reason-requires c = subst (LayerSays PlanIsRight c.args.claim.now) c.in_default-2.is c.in_ok-reason.ensures
