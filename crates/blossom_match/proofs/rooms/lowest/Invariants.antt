use Rattle.std.proofs.Common.{◌<◌}
use Rattle.blossom_match.proofs.rooms.lowest.Given as goal

abbrev pub invariant-loop-v : goal.invariant-loop-v
invariant-loop-v l = l.best < l.state.size
