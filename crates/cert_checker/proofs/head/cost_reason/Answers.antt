use Rattle.std.proofs.Common.{refl, arith}
use Rattle.cert_checker.proofs.head.cost_reason.Goals as goal

pub returns-then-from-found : goal.returns-then-from-found
returns-then-from-found c = λ nodes. (c.requires.lawful nodes, refl, c.requires.cost, λ same. omega (arith, same, c.from.ensures, c.if-from-found.true))

pub returns : goal.returns
returns c = λ nodes. record { plan = c.requires.lawful nodes; cost = omega (arith, c.from.ensures, c.if-from-found.false, c.requires.cost) }
