use Rattle.std.proofs.Common.{[], pos, arith}
use Rattle.matching_duals.proofs.merging.find_equal.Goals as goal

pub returns : goal.returns
returns c = λ stands.
    c.loop-i.invariant stands.place (record { shore = []; weight = pos 0 }) (omega (arith, stands.below, c.loop-i-test.false)) (stands.same (record { shore = []; weight = pos 0 }))
