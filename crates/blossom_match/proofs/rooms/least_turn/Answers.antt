use Rattle.blossom_match.proofs.Limits.{turn_lawful, turn_happens, some_happens}
use Rattle.blossom_match.specs.Turns.{Happens, IsLawful}
use Rattle.blossom_match.proofs.rooms.least_turn.Goals as goal

pub returns-clause-lawful : goal.returns-clause-lawful
returns-clause-lawful c =
    turn_lawful c.args.costs.now c.args.state.now _ _ _ c.requires.asked c.requires.searching c.least_pair-pair.ensures.keeps c.least_node.ensures.keeps c.lesser.ensures.first c.lesser.ensures.second

pub returns-clause-happens : goal.returns-clause-happens
returns-clause-happens c =
    some_happens _ (λ t. IsLawful c.args.costs.now c.args.state.now t.amount) (λ t. Happens c.args.costs.now c.args.state.now t.amount t.event) (returns-clause-lawful c)
    (turn_happens c.args.costs.now c.args.state.now _ _ _ c.requires.asked c.requires.searching c.least_pair-pair.ensures.keeps c.lesser.ensures.one c.least_pair-pair.ensures.happens c.least_node.ensures.node)
