use Rattle.std.proofs.Common.{arith}
use Rattle.giant_split.proofs.Growing.{few_in_tour, split_more, split_whole}
use Rattle.giant_split.proofs.splitting.join_tours.Goals as goal

pub add_tour-requires-clause-few : goal.add_tour-requires-clause-few
add_tour-requires-clause-few c =
    let cutter = c.args.cutter.now in
    let from = c.loop-from.from in
    rw c.end-end.ensures.value
    (
    few_in_tour c.args.inst.now c.args.order.now cutter.costs.items cutter.lasts.items c.validity.ensures c.requires.order.required from (c.requires.cut.each from c.loop-from-test.true)
    )

pub add_tour-requires-clause-room : goal.add_tour-requires-clause-room
add_tour-requires-clause-room c =
    omega (arith, c.served_once_are_as_many.ensures c.args.inst.now c.args.order.now c.requires.order, c.validity.ensures.few_required, c.loop-from.invariant.few, c.loop-from-test.true)

pub loop-from-preserved : goal.loop-from-preserved
loop-from-preserved c =
    let cutter = c.args.cutter.now in
    let from = c.loop-from.from in
    split_more c.args.inst.now c.args.order.now cutter.costs.items cutter.lasts.items from c.end-end.result c.loop-from.plan c.add_tour.new.plan c.loop-from.invariant (c.requires.cut.each from c.loop-from-test.true)
    c.end-end.ensures.value (rw (← c.end-end.ensures.value) c.in_ok-add_tour.ensures.tours) c.in_ok-add_tour.ensures.paths

pub returns : goal.returns
returns c =
    let cutter = c.args.cutter.now in
    let tours = c.plans_are_tours.ensures in
    split_whole c.args.inst.now c.args.order.now cutter.costs.items cutter.lasts.items c.validity.ensures tours.lawful tours.tours tours.cost tours.least c.tours_are_linked.ensures.there c.requires.order c.requires.cut
    c.loop-from.from c.loop-from.plan c.loop-from.invariant c.loop-from-test.false

pub end-end-requires-clause-later : goal.end-end-requires-clause-later
end-end-requires-clause-later c = (c.requires.cut.each c.loop-from.from c.loop-from-test.true).later

pub end-end-requires-clause-within : goal.end-end-requires-clause-within
end-end-requires-clause-within c = (c.requires.cut.each c.loop-from.from c.loop-from-test.true).within
