use Rattle.std.proofs.Common.{subst, arith}
use Rattle.fleet_pack.specs.Groups.{AreFineLoads}
use Rattle.fleet_pack.proofs.Judgement.{judged}
use Rattle.fleet_pack.proofs.judging.is_packing.Goals as goal

pub returns : goal.returns
returns c = λ fits.
    let fine : AreFineLoads c.args.inst.now.capacity c.in_ok-loads.loads.items =
    subst (λ q. AreFineLoads q c.in_ok-loads.loads.items) c.capacity.ensures.value (subst (AreFineLoads c.capacity.result) c.deref.ensures.value (c.loads_fit.ensures fits)) in
    judged c.args.inst.now c.args.groups.now c.in_ok-loads.loads.items c.args.count (omega (arith, c.required.ensures.value)) (c.all_within.ensures c.if-not-all_within.false) c.in_ok-loads.ensures.long c.in_ok-loads.ensures.loads fine
