use Rattle.std.proofs.Common.{◌≤◌, ◌+◌, ◌∙◌, arith, ap, pos, ◌*ℤ◌}
use Rattle.std.proofs.lemmas.Int.{ints}
use Rattle.branch_rules.specs.Bonds.{GroupWeight, bond}
use Rattle.branch_rules.proofs.Signed.{signed_sum_step}
use Rattle.branch_rules.proofs.group.surcharge_of.Goals as goal

pub loop-group-preserved : goal.loop-group-preserved
loop-group-preserved c =
    let one = c.bond_weighs-sum.ensures in
    let few : c.loop-group.group-index + 1 ≤ 2000 = omega (arith, c.loop-group-test.true, c.requires) in
    record {
      value = signed_sum_step {X = GroupWeight} (λ (w : GroupWeight). w.weight *ℤ pos (bond w.edges c.args.e c.args.f)) c.args.groups.now c.loop-group.group-index c.group-item.result _ _ _
          c.loop-group-test.true c.loop-group.invariant.value
          (one.value ∙ ap (λ (w : GroupWeight). w.weight *ℤ pos (bond w.edges c.args.e c.args.f)) c.group-item.is)
          (omega (arith, ints, one.within.low, one.within.high, few));
      low = omega (arith, ints, one.within.low, one.within.high, few);
      high = omega (arith, ints, one.within.low, one.within.high, few);
    }
