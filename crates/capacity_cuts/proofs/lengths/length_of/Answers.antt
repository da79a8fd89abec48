use Rattle.std.proofs.Common.{arith, inl}
use Rattle.capacity_cuts.proofs.Distancing.{distance_of, distance_small}
use Rattle.capacity_cuts.proofs.lengths.length_of.Goals as goal

pub overflow_cast-result : goal.overflow_cast-result
overflow_cast-result c =
    let is = distance_of c.args.inst.now c.args.dist.now c.depot.result c.args.v c.in-Some.price c.requires.problem c.requires.costs c.depot.ensures.value c.in-Some.ensures.value in
    omega (arith, distance_small c.least_prices_are_there.ensures.few_steps c.args.inst.now c.args.v c.in-Some.price c.depot.ensures.valid is)

pub returns-in-Some-clause-value : goal.returns-in-Some-clause-value
returns-in-Some-clause-value c =
    inl (distance_of c.args.inst.now c.args.dist.now c.depot.result c.args.v c.in-Some.price c.requires.problem c.requires.costs c.depot.ensures.value c.in-Some.ensures.value)

pub returns-in-Some-clause-small : goal.returns-in-Some-clause-small
returns-in-Some-clause-small c =
    distance_small c.least_prices_are_there.ensures.few_steps c.args.inst.now c.args.v c.in-Some.price c.depot.ensures.valid
    (distance_of c.args.inst.now c.args.dist.now c.depot.result c.args.v c.in-Some.price c.requires.problem c.requires.costs c.depot.ensures.value c.in-Some.ensures.value)
