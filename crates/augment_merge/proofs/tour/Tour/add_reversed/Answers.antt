use Rattle.std.proofs.Common.{false}
use Rattle.augment_merge.proofs.Turning.{reversed_take}
use Rattle.augment_merge.proofs.tour.Tour.add_reversed.Goals as goal

pub loop-i-preserved : goal.loop-i-preserved
loop-i-preserved c = reversed_take c.args.self.now c.push.new.self c.args.tasks.now c.loop-i.i (record { edge = 0; forward = false }) c.loop-i-test.true (rw (← c.loop-i.invariant) c.in_ok-push.ensures)
