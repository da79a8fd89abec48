use Rattle.std.proofs.Common.{◌≤◌, ap, arith, refl}
use Rattle.packing_trees.proofs.Loading.{load_step, small_step}
use Rattle.packing_trees.proofs.grouping.add_up.Goals as goal

pub loop-edge-preserved : goal.loop-edge-preserved
loop-edge-preserved c =
    let p = c.args.inst.now in
    let e = c.loop-edge.edge in
    let from_one : 1 ≤ e = omega arith in
    let in_range : e ≤ p.required = omega (arith, c.required-edge-end.ensures.value) in
    let demand_is = ap (λ x. x.demand) c.edge.ensures in
    let valid = c.required-edge-end.ensures.valid in
    let fits = (valid.tasks e (record { from_one = from_one; in_range = in_range })).demand_fits in
    record {
      so_far = load_step p c.args.groups.now c.loop-edge.loads c.add.new.loads e _ _ from_one refl demand_is c.add.auto.loads c.add.ensures.here c.add.ensures.elsewhere c.loop-edge.invariant.so_far;
      small = small_step p c.args.groups.now c.loop-edge.loads c.add.new.loads e _ _ from_one refl demand_is c.add.auto.loads c.add.ensures.here c.add.ensures.elsewhere (omega (arith, demand_is, fits, valid.capacity_in)) c.loop-edge.invariant.small;
    }
