use Rattle.std.proofs.Common.{sum, arith}
use Rattle.shore_program.proofs.examples.shores_held_no_more.Goals as goal

pub returns-clause-fewer : goal.returns-clause-fewer
returns-clause-fewer c = λ f. omega arith

pub returns-clause-twice : goal.returns-clause-twice
returns-clause-twice c = λ no_more. absurd (omega (arith, no_more (λ _. 1)))

pub returns-clause-another : goal.returns-clause-another
returns-clause-another c = λ no_more. absurd (omega (arith, no_more sum))
