use Rattle.std.proofs.Common.{arith}
use Rattle.shore_program.proofs.examples.shores_listed_no_more.Goals as goal

pub returns-clause-one : goal.returns-clause-one
returns-clause-one c = λ f. omega arith

pub returns-clause-twice : goal.returns-clause-twice
returns-clause-twice c = λ no_more. absurd (omega (arith, no_more (λ _. 1)))

pub returns-clause-of_none : goal.returns-clause-of_none
returns-clause-of_none c = λ no_more. absurd (omega (arith, no_more (λ _. 1)))
