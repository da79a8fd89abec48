use Rattle.std.proofs.Common.{◌+◌, drop, get_or, refl, inl, arith}
use Rattle.deadhead_paths.specs.Prices.{price_of, costs_of}
use Rattle.decision_chains.proofs.Choices.{one_more_task, all_done}
use Rattle.decision_chains.proofs.directing.follow.Goals as goal

pub loop-i-preserved : goal.loop-i-preserved
loop-i-preserved c =
    let p = c.args.inst.now in
    let edges = c.args.edges.now in
    let i = c.loop-i.i in
    let after = c.requires.filled.each i (omega arith) c.loop-i-test.true in
    let stand = rw c.ends-at.ensures.head at c.ends-at.ensures.head_stands in
    rw (c.ends-at.ensures.head, c.in_ok-push.ensures.items)
    (one_more_task p edges i c.loop-i.at c.loop-i.tasks.items (get_or edges i 0) 0 _ c.task-next.result c.better-start.result.forward c.better-start.result.cost c.loop-i.invariant c.loop-i-test.true refl after
    (c.better-start.ensures.best (drop (i + 1) edges) after) c.task-next.ensures.edge c.task-next.ensures.forward stand)

pub returns : goal.returns
returns c =
    let p = c.args.inst.now in
    let there = c.tours_are_linked.ensures.linked p c.depot-at.ensures.valid (price_of (costs_of p)) c.loop-i.at p.depot c.loop-i.invariant.stand (inl refl) in
    all_done p c.args.edges.now c.loop-i.i c.loop-i.at c.loop-i.tasks.items c.loop-i.invariant (omega (arith, c.loop-i-test.false)) there.0 there.1
