use Rattle.std.proofs.Common.{◌≡◌, ◌+◌, ◌-◌, ◌≤◌, arith, subst, refl}
use Rattle.route_pricing.specs.Partial.{column_task, demand_of}
use Rattle.route_pricing.specs.Retracing.{turned}
use Rattle.route_pricing.specs.Through.{IsLeastWeight, IsLeastHalf, IsLighterHalf, IsLighterPair}
use Rattle.route_pricing.proofs.Weighing.{half_none, half_more, pair_none, pair_more, all_pairs}
use Rattle.route_pricing.proofs.through.least_pair.Goals as goal

pub loop-more-init : goal.loop-more-init
loop-more-init c =
    let g = c.args.grid.now in
    let r = c.requires in
    let b = c.args.scale.now.value in
    let left = c.args.scale.now.left in
    let t = column_task c.args.column in
    record {
      back = half_none g r.grid b left r.value r.left (turned t) (demand_of g t + 0) _ refl (omega arith);
      best = pair_none g r.grid b left r.value r.left t (g.inst.capacity - 0) _ refl (omega arith);
    }

pub loop-more-preserved : goal.loop-more-preserved
loop-more-preserved c =
    let g = c.args.grid.now in
    let r = c.requires in
    let b = c.args.scale.now.value in
    let left = c.args.scale.now.left in
    let t = column_task c.args.column in
    let more = c.loop-more.more in
    let loop = c.loop-more.invariant in
    let d_is = c.demand-demand.ensures.value in
    let q_is = c.capacity-capacity.ensures.value in
    let there = c.weight-there.result in
    let first = c.weight-first.result in
    let back = c.or-back.result in
    let there_is : IsLeastWeight g b left (demand_of g t + more) (turned t) there =
    subst (λ s. IsLeastWeight g b left (demand_of g t + more) s there) r.turned (subst (λ d. IsLeastWeight g b left (d + more) (column_task (c.args.column + 1)) there) d_is c.weight-there.ensures) in
    let first_is : IsLeastWeight g b left (g.inst.capacity - more) t first = subst (λ q. IsLeastWeight g b left (q - more) t first) q_is c.weight-first.ensures in
    let lighter : IsLighterHalf c.loop-more.back (demand_of g t + more) there back = subst (λ d. IsLighterHalf c.loop-more.back (d + more) there back) d_is c.or-back.ensures in
    let back_is = half_more g r.grid b left r.value r.left (turned t) (demand_of g t + more) there c.loop-more.back back loop.back there_is lighter in
    let room : more + demand_of g t ≤ g.inst.capacity = omega (arith, c.loop-more-test.true, q_is, d_is, c.demand-demand.ensures.fits) in
    let some : 1 ≤ demand_of g t = omega (arith, d_is, c.demand-demand.ensures.some) in
    let pairs = subst (λ q. IsLighterPair c.loop-more.best (q - more) first back c.or-best.result) q_is c.or-best.ensures in
    record {
      back = subst (λ n. IsLeastHalf g b left n (turned t) back) (let e : demand_of g t + more + 1 ≡ demand_of g t + (more + 1) = omega arith in e) back_is;
      best = pair_more g r.grid b left r.value r.left t more first back c.loop-more.best c.or-best.result room some first_is back_is pairs loop.best;
    }

pub returns : goal.returns
returns c =
    let g = c.args.grid.now in
    let r = c.requires in
    let b = c.args.scale.now.value in
    let left = c.args.scale.now.left in
    let t = column_task c.args.column in
    all_pairs g r.grid b left r.value r.left t (g.inst.capacity - c.loop-more.more) c.loop-more.best
    (omega (arith, c.loop-more-test.false, c.capacity-capacity.ensures.value, c.demand-demand.ensures.value, c.demand-demand.ensures.some, c.demand-demand.ensures.fits)) c.loop-more.invariant.best
