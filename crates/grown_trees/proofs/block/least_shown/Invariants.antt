use Rattle.std.proofs.Common.{take}
use Rattle.grown_trees.specs.Blocks.{IsLeast}
use Rattle.grown_trees.proofs.block.least_shown.Given as goal

abbrev pub invariant-loop-entry : goal.invariant-loop-entry
invariant-loop-entry l = IsLeast l.fn.cost (take l.entry-index l.nodes) l.least
