use Rattle.std.proofs.Common.{take}
use Rattle.grown_trees.specs.Blocks.{IsLeast, joined}
use Rattle.grown_trees.proofs.blocks.least_of.Given as goal

abbrev pub invariant-loop-block : goal.invariant-loop-block
invariant-loop-block l = IsLeast l.fn.cost (joined (take l.block-index l.blocks)) l.least
