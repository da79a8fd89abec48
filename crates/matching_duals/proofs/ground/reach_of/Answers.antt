use Rattle.std.proofs.Common.{arith, inl}
use Rattle.matching_duals.proofs.Distances.{distance_of, distance_small}
use Rattle.matching_duals.proofs.ground.reach_of.Goals as goal

pub overflow_cast-result : goal.overflow_cast-result
overflow_cast-result c =
    omega (
      arith,
      distance_small c.least_prices_are_there.ensures.few_steps c.args.inst.now c.args.v c.args.x c.in-Some.price c.validity.ensures
          (distance_of c.args.inst.now c.args.dist.now c.args.v c.args.x c.in-Some.price c.requires.problem c.requires.costs c.in-Some.ensures.value),
    )

pub returns-in-Some-clause-value : goal.returns-in-Some-clause-value
returns-in-Some-clause-value c =
    inl (distance_of c.args.inst.now c.args.dist.now c.args.v c.args.x c.in-Some.price c.requires.problem c.requires.costs c.in-Some.ensures.value)

pub returns-in-Some-clause-small : goal.returns-in-Some-clause-small
returns-in-Some-clause-small c =
    distance_small c.least_prices_are_there.ensures.few_steps c.args.inst.now c.args.v c.args.x c.in-Some.price c.validity.ensures
    (distance_of c.args.inst.now c.args.dist.now c.args.v c.args.x c.in-Some.price c.requires.problem c.requires.costs c.in-Some.ensures.value)
