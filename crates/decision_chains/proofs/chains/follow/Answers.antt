use Rattle.decision_chains.proofs.Including.{says_nothing, chains_without}
use Rattle.decision_chains.proofs.chains.follow.Goals as goal

pub returns-in_default : goal.returns-in_default
returns-in_default c = λ branch tangled before.
    chains_without branch c.args.decision.now (λ x y is. cc (says_nothing c.args.decision.now c.in_default.not-Yes x y)) _ _ _ _ before

pub returns-in-Yes : goal.returns-in-Yes
returns-in-Yes c = λ branch tangled before. rw c.in-Yes.is (c.take_in.ensures branch tangled before)
