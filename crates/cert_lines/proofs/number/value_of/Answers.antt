use Rattle.std.proofs.Common.{arith}
use Rattle.std.proofs.lemmas.Grind.{common_steps}
use Rattle.cert_lines.proofs.Cuts.{value_turn}
use Rattle.cert_lines.proofs.number.value_of.Goals as goal

pub loop-b-preserved : goal.loop-b-preserved
loop-b-preserved c =
    let turn = value_turn c.args.digits.now c.loop-b.b-index c.loop-b.value c.requires c.loop-b-test.true c.loop-b.invariant in
    grind (arith, common_steps)
