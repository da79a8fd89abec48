use Rattle.std.proofs.Common.{◌≤◌, ◌+◌, ◌∙◌, arith, ap}
use Rattle.std.proofs.lemmas.Int.{ints}
use Rattle.branch_rules.specs.Bonds.{GroupWeight, room}
use Rattle.branch_rules.specs.Prices.{weigh_bonds}
use Rattle.branch_rules.proofs.Signed.{signed_sum_step}
use Rattle.branch_rules.proofs.group.rooms_weigh.Goals as goal

pub loop-group-preserved : goal.loop-group-preserved
loop-group-preserved c =
    let one = c.room_weighs-sum.ensures in
    let few : c.loop-group.group-index + 1 ≤ 2000 = omega (arith, c.loop-group-test.true, c.requires) in
    record {
      value = signed_sum_step {X = GroupWeight} (λ (w : GroupWeight). weigh_bonds w.weight (room c.args.inst.now w.edges)) c.args.groups.now c.loop-group.group-index c.group-item.result _ _ _
          c.loop-group-test.true c.loop-group.invariant.value
          (one.value ∙ ap (λ (w : GroupWeight). weigh_bonds w.weight (room c.args.inst.now w.edges)) c.group-item.is)
          (omega (arith, ints, one.low, one.high, few));
      low = omega (arith, ints, one.low, one.high, few);
      high = omega (arith, ints, one.low, one.high, few);
    }
