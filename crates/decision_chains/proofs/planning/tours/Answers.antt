use Rattle.std.proofs.Common.{◌≤◌, sym, ◌∙◌, arith}
use Rattle.decision_chains.proofs.PlanParts.{first_part, longer_part, mark_place}
use Rattle.decision_chains.proofs.planning.tours.Goals as goal

pub loop-edge-init : goal.loop-edge-init
loop-edge-init c =
    let t = c.args.chains.now in
    rw c.new-plan.ensures
    (first_part c.yes_pairs_join.ensures t c.requires.table c.requires.untangled c.requires.light c.required-edge-end.ensures.valid c.least_prices_are_distances.ensures.symmetric c.least_prices_are_there.ensures.tasks c.walks_are_task_tours.ensures.least
    c.walks_are_task_tours.ensures.cost c.args.marks.now c.requires.long c.requires.none c.requires.all)

pub loop-edge-preserved : goal.loop-edge-preserved
loop-edge-preserved c =
    let t = c.args.chains.now in
    let k = c.loop-edge.edge in
    let marks = c.loop-edge.marks in
    let from_one : 1 ≤ k = omega arith in
    let in_range : k ≤ t.inst.now.required = omega (arith, c.required-edge-end.ensures.value) in
    let free = sym (mark_place marks k _ from_one (omega (arith, in_range, c.loop-edge.invariant.long))) ∙ c.if-marks-edge.false in
    rw c.in_ok-push.ensures.ok
    (longer_part c.yes_pairs_join.ensures t c.requires.table c.requires.untangled c.requires.light c.required-edge-end.ensures.valid c.least_prices_are_distances.ensures.symmetric c.least_prices_are_there.ensures.tasks c.walks_are_task_tours.ensures.least
    c.walks_are_task_tours.ensures.cost k marks c.tour.new.marks c.loop-edge.plan c.in_ok-walk.walk c.loop-edge.invariant c.in_ok-walk.ensures (record { from_one = from_one; in_range = in_range }) free)
