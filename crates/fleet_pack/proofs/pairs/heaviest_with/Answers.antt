use Rattle.std.proofs.Common.{arith}
use Rattle.fleet_pack.proofs.Pairing.{one_more}
use Rattle.fleet_pack.proofs.pairs.heaviest_with.Goals as goal

pub loop-b-preserved : goal.loop-b-preserved
loop-b-preserved c =
    one_more c.args.inst.now c.args.branch.now c.args.a c.loop-b.b c.loop-b.found c.heavier-found.result (c.requires.required.from_one, omega arith, omega arith) c.loop-b.invariant c.heavier-found.ensures
