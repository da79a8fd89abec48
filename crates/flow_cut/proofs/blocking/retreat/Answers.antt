use Rattle.std.proofs.Common.{◌-◌, ◌<◌, ◌≤◌, length, slice_index, inr, arith}
use Rattle.std.proofs.lemmas.List.{get_or_read}
use Rattle.flow_cut.proofs.Trying.{sum_set, untried_set}
use Rattle.flow_cut.proofs.Ways.{step_back}
use Rattle.flow_cut.proofs.blocking.retreat.Goals as goal

pub returns-then-untried-v-clause-untried : goal.returns-then-untried-v-clause-untried
returns-then-untried-v-clause-untried c =
    let l = c.args.layers.now in
    let u = c.tail-v.result in
    let before = step_back c.args.arcs.now c.args.ends.nodes c.args.ends.source l.level.items l.via.items c.loop-v.v u c.index.result.now c.requires.layered
    c.loop-v-test.true c.loop-v.invariant.reached c.index.ensures c.tail-v.ensures in
    rw c.loop-v.invariant.same
    (untried_set c.args.ends.nodes c.args.adjacency.now.starts.items c.args.untried.now u (slice_index c.args.untried.now u - 1) before.2 (omega arith) c.requires.untried)

pub returns-then-untried-v-clause-less : goal.returns-then-untried-v-clause-less
returns-then-untried-v-clause-less c =
    let l = c.args.layers.now in
    let u = c.tail-v.result in
    let before = step_back c.args.arcs.now c.args.ends.nodes c.args.ends.source l.level.items l.via.items c.loop-v.v u c.index.result.now c.requires.layered
    c.loop-v-test.true c.loop-v.invariant.reached c.index.ensures c.tail-v.ensures in
    let there : u < length c.args.untried.now = omega (arith, before.2, c.requires.untried.untried_len) in
    let some = rw c.loop-v.invariant.same at c.if-untried-v.true in
    rw c.loop-v.invariant.same (omega (arith, sum_set c.args.untried.now u (slice_index c.args.untried.now u - 1) there, some))

pub loop-v-smaller : goal.loop-v-smaller
loop-v-smaller c =
    let l = c.args.layers.now in
    let before = step_back c.args.arcs.now c.args.ends.nodes c.args.ends.source l.level.items l.via.items c.loop-v.v c.tail-v.result c.index.result.now c.requires.layered
    c.loop-v-test.true c.loop-v.invariant.reached c.index.ensures c.tail-v.ensures in
    let less : slice_index l.level.items c.tail-v.result < slice_index l.level.items c.loop-v.v = omega (arith, before.0) in
    less

pub returns-clause-untried : goal.returns-clause-untried
returns-clause-untried c = rw c.loop-v.invariant.same c.requires.untried

pub loop-v-preserved : goal.loop-v-preserved
loop-v-preserved c =
    let l = c.args.layers.now in
    let starts = c.args.adjacency.now.starts.items in
    let u = c.tail-v.result in
    let before = step_back c.args.arcs.now c.args.ends.nodes c.args.ends.source l.level.items l.via.items c.loop-v.v u c.index.result.now c.requires.layered
    c.loop-v-test.true c.loop-v.invariant.reached c.index.ensures c.tail-v.ensures in
    let there : u < length starts = omega (arith, before.2, c.requires.adjacency.starts_len) in
    let start = get_or_read starts u c.index-in-loop-v.result.now there c.index-in-loop-v.ensures 0 in
    let spent : slice_index c.loop-v.untried u ≤ slice_index starts u = omega (arith, start, c.if-untried-v.false) in
    record { reached = before.1; same = c.loop-v.invariant.same; spent = inr spent }
