use Rattle.std.proofs.Common.{arith}
use Rattle.std.proofs.lemmas.Grind.{common_steps}
use Rattle.local_moves.proofs.Rooms.{counted_more}
use Rattle.local_moves.proofs.loads.loads_behind.Goals as goal

pub loop-i-preserved : goal.loop-i-preserved
loop-i-preserved c = record {
  behind = record {
    long = grind (arith, common_steps);
    each = grind (arith, common_steps);
    small = grind (arith, common_steps);
  };
  load = counted_more c.args.board.now c.args.stops.now c.loop-i.i c.loop-i.load c.load_with-load.result c.loop-i-test.true c.loop-i.invariant.load c.load_with-load.ensures.counted;
  small = c.load_with-load.ensures.small;
}
