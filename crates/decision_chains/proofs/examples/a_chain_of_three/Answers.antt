use Rattle.std.proofs.Common.{[], ◌∷◌, refl, arith}
use Rattle.decision_chains.proofs.examples.a_chain_of_three.Goals as goal

pub returns-clause-joined : goal.returns-clause-joined
returns-clause-joined c = (3 ∷ (2 ∷ []), (refl, (refl, refl)))

pub returns-clause-itself : goal.returns-clause-itself
returns-clause-itself c = ([], refl)

pub returns-clause-inner : goal.returns-clause-inner
returns-clause-inner c = λ end. omega (arith, end 1 2 refl refl)
