use Rattle.std.proofs.Common.{◌≤◌, length}
use Rattle.fleet_pack.proofs.share.best_size.Given as goal

abbrev pub invariant-loop-least : goal.invariant-loop-least
invariant-loop-least l = l.alone ≤ length l.weights
