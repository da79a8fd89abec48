use Rattle.std.proofs.Common.{arith, ap}
use Rattle.local_moves.specs.Sequences.{links_of}
use Rattle.local_moves.proofs.Composing.{costs_at_least, full_sequence}
use Rattle.local_moves.proofs.Later.{ok_by_one}
use Rattle.local_moves.proofs.plans.settle_on.Goals as goal

pub settle_from-requires-clause-sequence : goal.settle_from-requires-clause-sequence
settle_from-requires-clause-sequence c =
    rw c.in_ok-sequence.ensures
    (full_sequence c.plans_are_tours.ensures.tours c.required_edges_are_served_once.ensures.by_number c.args.inst.now c.args.board.now c.validity.ensures c.requires.of c.args.plan.now c.requires.lawful)

pub returns-clause-cost : goal.returns-clause-cost
returns-clause-cost c =
    let p = c.args.inst.now in
    let b = c.args.board.now in
    let least = costs_at_least c.plans_are_tours.ensures.tours c.plans_are_tours.ensures.least p b c.validity.ensures c.requires.of c.args.plan.now c.requires.lawful in
    let same = ap (links_of b) c.in_ok-sequence.ensures in
    ok_by_one c.settle_from.result c.settle_from.ensures.cost (λ after most. omega (arith, most, least, same))
