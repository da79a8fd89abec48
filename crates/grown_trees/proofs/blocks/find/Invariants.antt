use Rattle.std.proofs.Common.{◌≡◌, ◌+◌, length, take}
use Rattle.grown_trees.specs.Blocks.{joined}
use Rattle.grown_trees.proofs.blocks.find.Given as goal

abbrev pub invariant-loop-block : goal.invariant-loop-block
invariant-loop-block l = l.fn.place ≡ length (joined (take l.block l.blocks)) + l.inner
