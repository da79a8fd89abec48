use Rattle.std.proofs.Common.{◌≡◌, length}
use Rattle.grown_trees.proofs.blocks.spare_blocks.Given as goal

abbrev pub invariant-loop : goal.invariant-loop
invariant-loop l = length l.spare.items ≡ l.counter
