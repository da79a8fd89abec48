use Rattle.std.proofs.Common.{◌≤◌}
use Rattle.fleet_pack.proofs.share.end_at.Given as goal

abbrev pub invariant-loop-end : goal.invariant-loop-end
invariant-loop-end l = l.end ≤ l.fn.end

abbrev pub decreases-loop-end : goal.decreases-loop-end
decreases-loop-end l = l.end
