use Rattle.std.proofs.lemmas.Bool.{both_ways, false_from_ne_true}
use Rattle.decision_chains.proofs.Walking.{walked_order, joined_free, if_ok}
use Rattle.decision_chains.proofs.ordering.order.Goals as goal

pub walk-requires-clause-free : goal.walk-requires-clause-free
walk-requires-clause-free c =
    let joined = c.in_ok-end.ensures.joined in
    false_from_ne_true _ (λ marked. both_ways _ c.requires.free (joined_free c.yes_pairs_join.ensures c.args.chains.now.decisions.now c.args.marks.now c.requires.closed c.args.edge c.in_ok-end.end joined.0 joined.1 marked))

pub returns : goal.returns
returns c =
    let t = c.args.chains.now in
    if_ok _ _ c.walk.result
    (λ edges. walked_order c.yes_pairs_join.ensures t c.requires.table c.requires.untangled c.args.edge c.in_ok-end.end c.args.marks.now edges.items c.walk.new.marks c.in_ok-end.ensures.joined c.in_ok-end.ensures.end c.requires.closed) c.walk.ensures
