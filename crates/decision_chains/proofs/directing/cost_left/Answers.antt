use Rattle.std.proofs.Common.{◌-◌, length, arith}
use Rattle.std.proofs.lemmas.List.{drop_all}
use Rattle.decision_chains.proofs.Choices.{nothing_left}
use Rattle.decision_chains.proofs.directing.cost_left.Goals as goal

pub returns-then-i-edges-clause-least : goal.returns-then-i-edges-clause-least
returns-then-i-edges-clause-least c =
    let p = c.args.inst.now in
    let price = rw c.depot.ensures.value at c.least_cost.ensures.least in
    rw (drop_all c.args.i c.args.edges.now (omega (arith, c.if-i-edges.true))) (nothing_left p c.args.at c.least_cost.result price)

pub returns-else-i-edges-clause-small : goal.returns-else-i-edges-clause-small
returns-else-i-edges-clause-small c =
    let edges = c.args.edges.now in
    c.better.ensures.small (length edges - c.args.i) (c.requires.filled.small c.args.i (omega arith) (omega (arith, c.requires.place, c.if-i-edges.false)))
