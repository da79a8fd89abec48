use Rattle.cert_checker.specs.Claims.{support_in}
use Rattle.cert_checker.proofs.Walking.{is_there, walked_on}
use Rattle.cert_checker.proofs.checker.Checker.take.Goals as goal

pub returns-then-is_some-clause-walked : goal.returns-then-is_some-clause-walked
returns-then-is_some-clause-walked c = λ taken walked.
    walked_on (support_in c.args.claim.now) c.args.claim.now.bound taken c.args.node.now c.args.self.now.reason _ _ (is_there c.args.self.now.reason c.if-is_some.ensures) walked
