use Rattle.std.proofs.Common.{length, ◌-◌}
use Rattle.giant_split.specs.Cuts.{IsSplitTo}
use Rattle.giant_split.proofs.splitting.join_tours.Given as goal

abbrev pub invariant-loop-from : goal.invariant-loop-from
invariant-loop-from l = IsSplitTo l.inst l.order l.cutter.costs.items l.from l.plan

abbrev pub decreases-loop-from : goal.decreases-loop-from
decreases-loop-from l = length l.order - l.from
