use Rattle.std.proofs.Common.{◌≤◌, ◌-◌, ap, arith}
use Rattle.decision_chains.proofs.ChainLoads.{add_step, small_step}
use Rattle.decision_chains.proofs.Linking.{label_place}
use Rattle.decision_chains.proofs.chains.add_up.Goals as goal

pub loop-edge-preserved : goal.loop-edge-preserved
loop-edge-preserved c =
    let p = c.args.inst.now in
    let e = c.loop-edge.edge in
    let labels = c.args.labels.now in
    let from_one : 1 ≤ e = omega arith in
    let in_range : e ≤ p.required = omega (arith, c.required-edge-end.ensures.value) in
    let label = c.requires.within (e - 1) 0 (omega (arith, c.requires.long)) in
    let demand_is = ap (λ x. x.demand) c.edge.ensures in
    let valid = c.required-edge-end.ensures.valid in
    let fits = (valid.tasks e (record { from_one = from_one; in_range = in_range })).demand_fits in
    record {
      so_far = add_step p labels c.loop-edge.loads e _ _ from_one label.from_one (omega (arith, label.in_range, c.requires.room, c.loop-edge.auto.loads))
          (label_place labels e 0 from_one (omega (arith, c.requires.long))) demand_is c.loop-edge.invariant.so_far;
      small = small_step p labels c.loop-edge.loads e _ _ from_one (omega (arith, label.in_range, label.from_one, c.requires.room, c.loop-edge.auto.loads)) (omega (arith, demand_is, fits, valid.capacity_in)) c.loop-edge.invariant.small;
    }
