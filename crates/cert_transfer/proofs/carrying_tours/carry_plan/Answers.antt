use Rattle.std.proofs.Common.{◌≤◌, length, arith}
use Rattle.cert_transfer.proofs.Whole.{walk_few, walk_required, whole_few, whole_lawful, whole_short}
use Rattle.cert_transfer.proofs.carrying_tours.carry_plan.Goals as goal

pub add_walk-requires-clause-required : goal.add_walk-requires-clause-required
add_walk-requires-clause-required c =
    rw c.walk.ensures.value
    (walk_required c.args.inst.now c.args.plan.now c.loop-place.place (omega (arith, c.loop-place-test.true, c.len-place-end.ensures.value)) c.requires.services.required)

pub add_walk-requires-clause-few : goal.add_walk-requires-clause-few
add_walk-requires-clause-few c =
    rw c.walk.ensures.value
    (
    walk_few c.args.inst.now c.served_once_are_as_many.ensures c.validity.ensures c.args.plan.now c.requires.services c.loop-place.place c.loop-place.carried
    (omega (arith, c.loop-place-test.true, c.len-place-end.ensures.value)) c.loop-place.invariant
    )

past : (c : goal.After-loop-place) → length c.args.plan.now ≤ c.loop-place.place
past c = omega (arith, c.loop-place-test.false, c.len-place-end.ensures.value)

pub returns-clause-lawful : goal.returns-clause-lawful
returns-clause-lawful c =
    whole_lawful c.args.inst.now c.served_once_are_as_many.ensures c.validity.ensures c.args.plan.now c.requires.services c.loop-place.place c.loop-place.carried (past c) c.loop-place.invariant c.plans_are_tours.ensures.lawful

pub returns-clause-few_tours : goal.returns-clause-few_tours
returns-clause-few_tours c = whole_few c.args.inst.now c.served_once_are_as_many.ensures c.validity.ensures c.args.plan.now c.requires.services c.loop-place.place c.loop-place.carried (past c) c.loop-place.invariant

pub returns-clause-few_steps : goal.returns-clause-few_steps
returns-clause-few_steps c = whole_short c.args.inst.now c.served_once_are_as_many.ensures c.validity.ensures c.args.plan.now c.requires.services c.loop-place.place c.loop-place.carried (past c) c.loop-place.invariant
