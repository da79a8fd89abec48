use Rattle.std.proofs.Common.{refl}
use Rattle.cert_checker.proofs.checker.void_reason.Goals as goal

pub returns-then-not-branch : goal.returns-then-not-branch
returns-then-not-branch c = (refl, λ void. cc (c.in_ok-void.ensures.1 void, c.if-not-branch.true))

pub returns : goal.returns
returns c = c.in_ok-void.ensures.0 c.if-not-branch.false
