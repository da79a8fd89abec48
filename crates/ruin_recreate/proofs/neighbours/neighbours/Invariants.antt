use Rattle.std.proofs.Common.{◌≡◌, length}
use Rattle.ruin_recreate.proofs.neighbours.neighbours.Given as goal

abbrev pub invariant-loop-e : goal.invariant-loop-e
invariant-loop-e l = length l.near.items ≡ l.e
