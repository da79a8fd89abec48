use Rattle.std.proofs.Common.{◌≡◌, true, false, pos}
use Rattle.cert_format.proofs.Pools.{not_rising, rises_turn}
use Rattle.cert_format.proofs.draft.shores_rise.Goals as goal

pub returns-then-weights-i : goal.returns-then-weights-i
returns-then-weights-i c = (
  λ e. absurd (let both : false ≡ true = e in cc),
  λ rising. absurd (not_rising c.args.weights.now c.loop-i.i (record { shore = 0; weight = pos 0 }) c.loop-i.auto.i c.loop-i-test.true c.if-weights-i.true rising),
)

pub loop-i-preserved : goal.loop-i-preserved
loop-i-preserved c = rises_turn c.args.weights.now c.loop-i.i (record { shore = 0; weight = pos 0 }) c.loop-i.auto.i c.loop-i-test.true c.if-weights-i.false c.loop-i.invariant
