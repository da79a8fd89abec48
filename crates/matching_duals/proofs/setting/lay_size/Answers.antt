use Rattle.std.proofs.Common.{◌≡◌, add-one, subst, arith}
use Rattle.blossom_match.specs.Answer.{sets_in}
use Rattle.matching_duals.specs.Sets.{AreLaid, sets_to}
use Rattle.matching_duals.proofs.setting.lay_size.Goals as goal

pub returns : goal.returns
returns c =
    let all : c.loop-i.i ≡ sets_in c.args.matching.now = omega (arith, c.loop-i-test.false, c.loop-i.auto.i-end, c.sets-i-end.ensures) in
    rw add-one
    (subst (λ k. AreLaid c.args.inst.now c.args.ground.now.table.items (sets_to c.args.ground.now.odd.items c.args.matching.now c.args.size k)
    c.loop-i.laying.enclosing.items c.loop-i.laying.shores.items) all c.loop-i.invariant)
