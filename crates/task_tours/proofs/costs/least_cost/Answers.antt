use Rattle.std.proofs.Common.{◌≤◌, arith}
use Rattle.task_tours.proofs.Linking.{some_price, price_is}
use Rattle.deadhead_paths.specs.Prices.{edge_price, price_of, costs_of}
use Rattle.task_tours.proofs.costs.least_cost.Goals as goal

pub unwrap-requires : goal.unwrap-requires
unwrap-requires c =
    let p = c.args.inst.now in
    let x = c.args.dist.now in
    let there = c.tours_are_linked.ensures.linked p c.validity.ensures (price_of (costs_of p)) c.args.from c.args.to c.requires.from c.requires.to in
    some_price p x.problem (price_of (costs_of p)) (edge_price x) c.args.from c.args.to c.get.result c.requires.problem c.get.ensures.value there.0 there.1

pub returns-clause-least : goal.returns-clause-least
returns-clause-least c =
    price_is c.args.inst.now c.args.dist.now c.requires.problem c.requires.prices c.args.from c.args.to c.get.result c.get.ensures.value c.unwrap.result c.unwrap.ensures

pub returns-clause-small : goal.returns-clause-small
returns-clause-small c = c.tours_are_linked.ensures.small c.args.inst.now c.validity.ensures c.args.from c.args.to c.unwrap.result (returns-clause-least c)

pub overflow_cast-result : goal.overflow_cast-result
overflow_cast-result c = let small : c.unwrap.result ≤ 999000000 = returns-clause-small c in omega (arith, small)
