use Rattle.std.proofs.Common.{◌≤◌, ◌<◌, length, slice_index, ap, arith}
use Rattle.packing_trees.proofs.Weighing.{add_step, small_step}
use Rattle.packing_trees.proofs.bundling.add_up.Goals as goal

pub loop-edge-preserved : goal.loop-edge-preserved
loop-edge-preserved c =
    let p = c.args.inst.now in
    let e = c.loop-edge.edge in
    let labels = c.args.labels.now in
    let from_one : 1 ≤ e = omega arith in
    let in_range : e ≤ p.required = omega (arith, c.required-edge-end.ensures.value) in
    let label_in : slice_index labels e < length c.loop-edge.weights = omega (arith, c.requires.within e (omega (arith, c.requires.long)), c.requires.room, c.loop-edge.auto.weights) in
    let demand_is = ap (λ x. x.demand) c.edge.ensures in
    let valid = c.required-edge-end.ensures.valid in
    let fits = (valid.tasks e (record { from_one = from_one; in_range = in_range })).demand_fits in
    record {
      so_far = add_step p labels c.loop-edge.weights e _ from_one label_in demand_is c.loop-edge.invariant.so_far;
      small = small_step p labels c.loop-edge.weights e _ _ from_one label_in (omega (arith, demand_is, fits, valid.capacity_in)) c.loop-edge.invariant.small;
    }
