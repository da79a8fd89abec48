use Rattle.std.proofs.Common.{◌≡◌, subst, arith}
use Rattle.task_tours.specs.Tours.{plan_tours}
use Rattle.group_plans.specs.Gathering.{InOrderUpTo, ServesUpTo}
use Rattle.group_plans.proofs.GroupTours.{all_served, groups_in_order, groups_served}
use Rattle.group_plans.proofs.planning.plan_of_groups.Goals as goal

up_to_all : (c : goal.After-loop-done) → ServesUpTo c.args.inst.now c.args.groups.now c.args.count (plan_tours c.loop-done.plan)
up_to_all c =
    let all : c.loop-done.done ≡ c.args.count = omega (arith, c.loop-done-test.false, c.loop-done.auto.done-end) in
    subst (λ n. ServesUpTo c.args.inst.now c.args.groups.now n (plan_tours c.loop-done.plan)) all c.loop-done.invariant.up

pub returns-clause-lawful : goal.returns-clause-lawful
returns-clause-lawful c =
    let p = c.args.inst.now in
    c.plans_are_tours.ensures.lawful p c.validity.ensures c.loop-done.plan c.loop-done.invariant.paths
    (all_served p c.args.groups.now c.args.count c.requires.packing (plan_tours c.loop-done.plan) (up_to_all c))

pub returns-clause-serves : goal.returns-clause-serves
returns-clause-serves c = groups_served c.args.inst.now c.args.groups.now c.args.count c.requires.packing c.loop-done.plan (up_to_all c)

pub returns-clause-order : goal.returns-clause-order
returns-clause-order c =
    let all : c.loop-done.done ≡ c.args.count = omega (arith, c.loop-done-test.false, c.loop-done.auto.done-end) in
    groups_in_order c.args.inst.now c.args.groups.now c.args.count c.loop-done.plan
    (subst (λ n. InOrderUpTo c.args.inst.now c.args.groups.now n (plan_tours c.loop-done.plan)) all c.loop-done.invariant.order)
