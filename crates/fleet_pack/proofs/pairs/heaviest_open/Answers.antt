use Rattle.std.proofs.Common.{◌+◌, arith}
use Rattle.fleet_pack.proofs.Pairing.{next_row, all_rows, no_row}
use Rattle.fleet_pack.proofs.pairs.heaviest_open.Goals as goal

pub loop-a-init : goal.loop-a-init
loop-a-init c = no_row c.args.inst.now c.args.branch.now

pub loop-a-preserved : goal.loop-a-preserved
loop-a-preserved c = next_row c.args.inst.now c.args.branch.now c.loop-a.a c.heaviest_with-found.result c.heaviest_with-found.ensures

pub returns : goal.returns
returns c = all_rows c.args.inst.now c.args.branch.now c.loop-a.a (c.loop-a.a + 1) c.loop-a.found (omega arith) c.loop-a.invariant
