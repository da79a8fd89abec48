use Rattle.std.proofs.Common.{arith}
use Rattle.plan_model.proofs.Firsts.{broken_first, away_first, other_first, twice_first, unserved_first, overload_first, lawful_first, none_more, none_missed, first_more, first_missed}
use Rattle.plan_model.proofs.judging.verdict_of.Goals as goal

pub returns-in-Some : goal.returns-in-Some
returns-in-Some c = rw (c.from.ensures, c.from-in-Some.ensures)
    (let found = c.in-Some.ensures in broken_first c.args.inst.now c.args.plan.now c.in-Some.tour c.in-Some.step found.0 found.1)

pub returns-in-Some-first_away : goal.returns-in-Some-first_away
returns-in-Some-first_away c = rw c.from-in-Some-first_away.ensures
    (away_first c.args.inst.now c.args.plan.now c.in_default.ensures c.in-Some-first_away.tour c.in-Some-first_away.ensures)

pub returns-in-Some-least_other : goal.returns-in-Some-least_other
returns-in-Some-least_other c =
    let found = c.in-Some-least_other.ensures in
    other_first c.args.inst.now c.args.plan.now c.in_default.ensures c.in_default-first_away.ensures c.in-Some-least_other.edge found.least.0 found.least.1

pub returns-in-Some-first_twice : goal.returns-in-Some-first_twice
returns-in-Some-first_twice c =
    let p = c.args.inst.now in
    let plan = c.args.plan.now in
    let counts = c.count_services.new.counts in
    let found = first_more plan counts c.count_services.ensures p.required (omega arith) c.in-Some-first_twice.i c.in-Some-first_twice.ensures in
    twice_first p plan c.in_default.ensures c.in_default-first_away.ensures c.in_default-least_other.ensures.least c.in-Some-first_twice.i found

pub returns-in-Some-first_unserved : goal.returns-in-Some-first_unserved
returns-in-Some-first_unserved c =
    let p = c.args.inst.now in
    let plan = c.args.plan.now in
    let counts = c.count_services.new.counts in
    let found = first_missed plan counts c.count_services.ensures p.required (omega arith) c.in-Some-first_unserved.i c.in-Some-first_unserved.ensures in
    unserved_first p plan c.in_default.ensures c.in_default-first_away.ensures c.in_default-least_other.ensures.least
    (none_more plan counts c.count_services.ensures p.required (omega arith) c.in_default-first_twice.ensures)
    c.in-Some-first_unserved.i found

pub returns-in-Some-first_overload : goal.returns-in-Some-first_overload
returns-in-Some-first_overload c =
    let p = c.args.inst.now in
    let plan = c.args.plan.now in
    let counts = c.count_services.new.counts in
    let found = c.in-Some-first_overload.ensures in
    rw c.from-in-Some-first_overload.ensures (overload_first p plan c.in_default.ensures c.in_default-first_away.ensures c.in_default-least_other.ensures.least
    (none_more plan counts c.count_services.ensures p.required (omega arith) c.in_default-first_twice.ensures)
    (none_missed plan counts c.count_services.ensures p.required (omega arith) c.in_default-first_unserved.ensures)
    c.in-Some-first_overload.tour c.in-Some-first_overload.load found.0 found.1)

pub returns : goal.returns
returns c =
    let p = c.args.inst.now in
    let plan = c.args.plan.now in
    let counts = c.count_services.new.counts in
    lawful_first p plan c.plan_cost_of.result (record {
      continues = c.in_default.ensures;
      depot = c.in_default-first_away.ensures;
      no_other = c.in_default-least_other.ensures.least;
      at_most_once = none_more plan counts c.count_services.ensures p.required (omega arith) c.in_default-first_twice.ensures;
      at_least_once = none_missed plan counts c.count_services.ensures p.required (omega arith) c.in_default-first_unserved.ensures;
      loads = c.in_default-first_overload.ensures;
    }) c.plan_cost_of.ensures
