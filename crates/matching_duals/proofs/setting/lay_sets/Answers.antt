use Rattle.std.proofs.Common.{◌≡◌, ◌+◌, length, subst, arith}
use Rattle.matching_duals.specs.Sets.{AreLaid, sets_below}
use Rattle.matching_duals.proofs.setting.lay_sets.Goals as goal

pub returns : goal.returns
returns c =
    let odd = c.args.ground.now.odd.items in
    let all : c.loop-size.size ≡ length odd + 1 =
    omega (arith, c.loop-size-test.false, c.loop-size.auto.size-end, c.len-size-end.ensures, c.args.ground.now.odd.ok.0) in
    subst (λ k. AreLaid c.args.inst.now c.args.ground.now.table.items (sets_below odd c.args.matching.now k) c.loop-size.laying.enclosing.items c.loop-size.laying.shores.items)
    all c.loop-size.invariant
