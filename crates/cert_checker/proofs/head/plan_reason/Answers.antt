use Rattle.cert_checker.proofs.Firsts.{failing}
use Rattle.cert_checker.proofs.head.plan_reason.Goals as goal

pub returns : goal.returns
returns c = λ nodes. (c.requires nodes, c.judge.ensures.verdict, failing c.judge.result (λ cost is. c.in_default.not-Lawful cost is))
