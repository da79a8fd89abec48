use Rattle.std.proofs.Common.{◌≤◌, ◌<◌, ◌-◌, length, ap, arith}
use Rattle.std.specs.Prelude.{slice_index}
use Rattle.std.proofs.lemmas.List.Elements.{All-get_or}
use Rattle.fleet_pack.proofs.Judgement.{load_step, small_step}
use Rattle.fleet_pack.proofs.judging.add_loads.Goals as goal

pub loop-edge-preserved : goal.loop-edge-preserved
loop-edge-preserved c =
    let p = c.args.inst.now in
    let e = c.loop-edge.edge in
    let groups = c.args.groups.now in
    let from_one : 1 ≤ e = omega arith in
    let in_range : e ≤ p.required = omega (arith, c.required-edge-end.ensures.value) in
    let group_in : slice_index groups (e - 1) < length c.loop-edge.loads =
    omega (arith, All-get_or (λ g. g < length c.args.loads.now) groups (e - 1) 0 (omega (arith, c.requires.one_each)) c.requires.within, c.loop-edge.auto.loads) in
    let demand_is = ap (λ x. x.demand) c.edge.ensures in
    let valid = c.required-edge-end.ensures.valid in
    let fits = (valid.tasks e (record { from_one = from_one; in_range = in_range })).demand_fits in
    record {
      so_far = load_step p groups c.loop-edge.loads e _ from_one demand_is group_in c.loop-edge.invariant.so_far;
      small = small_step c.loop-edge.loads _ e _ from_one (omega (arith, demand_is, fits, valid.capacity_in)) group_in c.loop-edge.invariant.small;
    }
