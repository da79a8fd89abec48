use Rattle.local_moves.proofs.Composing.{full_sequence}
use Rattle.local_moves.proofs.perturbed.perturbed.Goals as goal

pub ruin_and_recreate-requires-clause-within : goal.ruin_and_recreate-requires-clause-within
ruin_and_recreate-requires-clause-within c =
    rw c.in_ok-start.ensures
    (full_sequence c.plans_are_tours.ensures.tours c.required_edges_are_served_once.ensures.by_number c.args.inst.now c.args.board.now c.validity.ensures c.requires.of c.args.best.now c.requires.lawful).sequence.within
